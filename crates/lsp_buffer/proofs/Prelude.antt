-- What more than one proof of this crate imports, so that each names it by one line.
pub use Rattle.std.proofs.Common.{Bool, Err, IsTrue, List, None, Ok, OnErr, OnOk, Option, Result, Some, [], ap, ap₂, arith, cond, drop, eqb-true, false, filter, find, get_or, inl, inr, is_err, le-ltb, length, lt-ltb, map, min, nat_le, option_map, refl, rules, set, slice_index, string_bytes, string_capacity, string_len, subst, suc, sum_by, sym, take, true, zero, ℕ, ⊎_elim, ◌*◌, ◌++◌, ◌+◌, ◌-◌, ◌/◌, ◌<◌, ◌==◌, ◌↔◌, ◌∙◌, ◌∷◌, ◌≡◌, ◌≢◌, ◌≤◌, ◌⊎◌}
pub use Rattle.std.proofs.Math.Seq.{drop-append-add, drop-append_seam, drop-cons, take-add, take-append-add}
pub use Rattle.std.proofs.Math.Utf8.{encode}
pub use Rattle.std.proofs.lemmas.Bool.{cases_Bool, cases_lt, false_from_ne_true, false≢true, lt-leb}
pub use Rattle.std.proofs.lemmas.Grind.{common_steps}
pub use Rattle.std.proofs.lemmas.List.{append-nil, append_assoc, append_cancel_left, drop-append-le, drop-drop, drop-set-add, drop-set-lt, drop-take, drop_all, drop_at, drop_more, get_or-append_right, get_or-set_other, get_or-set_same, get_or-take, get_or_append_left, get_or_default, length-append, length-drop, length-set, length-take, length-take-le, map-id, set-get_or, set-set, set_split, take-append-drop, take-append-le, take-set-le, take-take, take_all, take_at, take_more, with_items_is}
pub use Rattle.std.proofs.lemmas.List.Folds.{concat-append}
pub use Rattle.std.proofs.lemmas.Str.{IsCharBoundary-after_ascii, IsCharBoundary-at_seam, IsUtf8-append, IsUtf8-drop, IsUtf8-from_is_utf8, IsUtf8-string_bytes, IsUtf8-take, chars-append, chars-nil, encode_ascii, encodes-chars, is_utf8-from_IsUtf8, len_utf8_bounds, length-encode, length-le-encodes}
pub use Rattle.std.specs.Fmt.{HasWritten, IsPlainFormatter}
pub use Rattle.std.specs.List.{concat, replace_range, slice_range}
pub use Rattle.std.specs.Prelude.{encode_utf8_all}
pub use Rattle.std.specs.Str.{IsCharBoundary, IsUtf8, bytes_eq, chars, is_utf8}
pub use Rattle.lsp_buffer.specs.Blocks.{AreBlocks, AreGroups, EndsClear, IsFull, IsTextBuffer, block_ends, carried, counts_of, head_of}
pub use Rattle.lsp_buffer.specs.declared.counts.Counts.{Counts}
pub use Rattle.lsp_buffer.specs.declared.find.Found.{Found}
pub use Rattle.lsp_buffer.specs.declared.find.Target.TheVariants.{Denoted, Offset}
pub use Rattle.lsp_buffer.specs.declared.text_buffer.change.BlockRange.{BlockRange}
pub use Rattle.lsp_buffer.specs.inside.Changes.{IsChange, IsRangeOf, IsTaken, JoinsNext, StaysInside, text_after, text_left}
pub use Rattle.lsp_buffer.specs.inside.Counts.{HaveRoom, counts_sum, head_in}
pub use Rattle.lsp_buffer.specs.inside.Cuts.{AreFull, IsCut, IsFeed}
pub use Rattle.lsp_buffer.specs.inside.Parts.{AreThree, BeginsBefore, Closes, IsClearSeam, IsFound, IsPart, IsPartAt, IsPassed, Reaches}
pub use Rattle.lsp_buffer.specs.inside.Seams.{IsAtOrAfter, IsBefore, position_after, position_from}
pub use Rattle.lsp_text.proofs.Counting.TotalLemmas.{units_total}
pub use Rattle.lsp_text.proofs.Positions.PlaceLemmas.{place_add, place_boundary, place_end, place_one, place_order, place_rises}
pub use Rattle.lsp_text.proofs.Positions.PositionLemmas.{denoted_whole, exact_denotes}
pub use Rattle.lsp_text.proofs.TextLines.ContentLemmas.{last_stop, stop_behind, stop_within}
pub use Rattle.lsp_text.proofs.TextLines.LineLemmas.{IsStart, IsStop, in_content_line, in_content_whole, line_has_start, line_has_stop, line_rises, line_step, splits_none_past}
pub use Rattle.lsp_text.specs.LineStarts.{AreLinesOf, IsPlace}
pub use Rattle.lsp_text.specs.Positions.{denoted, exact_position}
pub use Rattle.lsp_text.specs.Text.{place_of}
pub use Rattle.lsp_text.specs.TextLines.{is_in_content, line_at, line_content, line_ends, line_feed, line_start, line_stop, numbers_from, splits_crlf, starts_line}
pub use Rattle.lsp_text.specs.Units.{units_between, units_in}
pub use Rattle.lsp_text.specs.declared.encoding.Encoding.{Encoding}
pub use Rattle.lsp_text.specs.declared.encoding.Encoding.TheVariants.{Utf16, Utf32, Utf8}
pub use Rattle.lsp_text.specs.declared.position.Position.{Position}
