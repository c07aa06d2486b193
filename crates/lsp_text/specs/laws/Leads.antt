-- No byte counts for more than four units.
use Rattle.std.specs.Prelude.{◌≤◌}
use Rattle.lsp_text.specs.Prelude.{ℕ, arith, nat_tests}
use Rattle.lsp_text.specs.Leads.{lead_units_utf16, lead_units_utf32}

pub utf16_few : (byte : ℕ) → lead_units_utf16 byte ≤ 4
utf16_few byte = grind (arith, nat_tests)

pub utf32_few : (byte : ℕ) → lead_units_utf32 byte ≤ 4
utf32_few byte = grind (arith, nat_tests)
