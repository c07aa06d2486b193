-- Bounds on the units of a character in each encoding.
use Rattle.std.specs.Prelude.{◌≤◌}
use Rattle.lsp_text.specs.Prelude.{ℕ, arith, len_utf8, nat_tests, Utf8, Utf16, Utf32}
use Rattle.std.proofs.lemmas.Str.{len_utf8_bounds}
use Rattle.lsp_text.specs.Units.{units_in}

-- A character has at least one unit, and no more units than bytes.
pub utf8_bounds : (c : ℕ) → (1 ≤ units_in Utf8 c) × (units_in Utf8 c ≤ len_utf8 c)
utf8_bounds c = ((len_utf8_bounds c).0, omega arith)

pub utf16_bounds : (c : ℕ) → (1 ≤ units_in Utf16 c) × (units_in Utf16 c ≤ len_utf8 c)
utf16_bounds c = (grind (arith, nat_tests), grind (arith, nat_tests))

pub utf32_bounds : (c : ℕ) → (1 ≤ units_in Utf32 c) × (units_in Utf32 c ≤ len_utf8 c)
utf32_bounds c = (omega arith, (len_utf8_bounds c).0)
