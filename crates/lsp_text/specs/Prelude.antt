-- What these definitions import from below, so that each names it by one line.
pub use Rattle.std.proofs.Common.{arith}
pub use Rattle.std.proofs.lemmas.Bool.Decides.{nat_tests}
pub use Rattle.std.specs.Char.{len_utf8}
pub use Rattle.std.specs.Prelude.{List, None, Option, Some, [], codes, drop, encode_utf8_all, false, filter, find, if◌then◌else◌, length, map, nat_le, nat_lt, option_map, suc, sum_by, take, true, ℕ, ◌+◌, ◌-◌, ◌<◌, ◌==◌, ◌↔◌, ◌∷◌, ◌≡◌, ◌≤◌}
pub use Rattle.std.specs.Str.{IsCharBoundary, IsUtf8, bytes_eq, chars}
pub use Rattle.lsp_text.specs.declared.encoding.Encoding.{Encoding}
pub use Rattle.lsp_text.specs.declared.encoding.Encoding.TheVariants.{Utf16, Utf32, Utf8}
pub use Rattle.lsp_text.specs.declared.position.Position.{Position}
