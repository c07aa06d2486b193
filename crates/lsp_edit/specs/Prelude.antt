-- What these definitions import from below, so that each names it by one line.
pub use Rattle.std.specs.List.{list_any, replace_range}
pub use Rattle.std.specs.Prelude.{Bool, Contains, Err, IsCharBoundary, IsOk, List, MatchOption, None, Ok, Option, Result, Some, [], codes, drop, encode_utf8_all, false, filter, flat_map, if◌then◌else◌, length, map, min, nat_le, nat_lt, reverse, slice_index, string_bytes, string_len, suc, sum_by, take, true, ℕ, ◌&&◌, ◌*◌, ◌++◌, ◌+◌, ◌-◌, ◌<◌, ◌==◌, ◌||◌, ◌↔◌, ◌∷◌, ◌≡◌, ◌≤◌, ◌⊎◌}
pub use Rattle.std.specs.Str.{IsUtf8, chars, is_utf8}
pub use Rattle.lsp_edit.specs.declared.change.Change.{Change}
pub use Rattle.lsp_edit.specs.declared.fault.EditFault.{EditFault}
pub use Rattle.lsp_edit.specs.declared.pieces.span.Span.{Span}
pub use Rattle.lsp_edit.specs.declared.text_edits.TextEdit.{TextEdit}
pub use Rattle.lsp_edit.specs.declared.text_edits.TextEditFault.{TextEditFault}
pub use Rattle.lsp_edit.specs.declared.text_edits.TextEditFault.TheVariants.{Overlap}
pub use Rattle.lsp_text.specs.Positions.{denoted, exact_position}
pub use Rattle.lsp_text.specs.TextLines.{numbers_from, splits_crlf}
pub use Rattle.lsp_text.specs.Units.{units_in}
pub use Rattle.lsp_text.specs.declared.position.Range.{Range}
