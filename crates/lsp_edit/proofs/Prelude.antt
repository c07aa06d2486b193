-- What more than one proof of this crate imports, so that each names it by one line.
pub use Rattle.std.proofs.Common.{Bool, Err, IsCharBoundary, List, None, Ok, Option, Result, Some, String, [], ap, append-nil, append_assoc, ap₂, arith, cond, drop, drop-cons, drop-drop, drop_at, encode_utf8, encode_utf8_all, eq-eqb, eqb-true, false, filter, flat_map, get_or, if◌then◌else◌, inl, inr, le-leb, le-ltb, leb-true, length, length-take-le, lt-ltb, ltb-false, ltb-true, map, max, min, nat_le, nat_lt, ne_eqb, option_map, refl, reverse, rules, slice_index, slice_index_or, string_bytes, string_len, subst, suc, sum_by, sym, take, take-add, take-append-drop, take-take, take_all, take_at, true, zero, ℕ, ⊎_elim, ◌++◌, ◌+◌, ◌-◌, ◌<◌, ◌==◌, ◌||◌, ◌↔◌, ◌∙◌, ◌∷◌, ◌≡◌, ◌≤◌, ◌⊎◌}
pub use Rattle.std.proofs.lemmas.Bool.{cases_Bool, cases_eq, cases_lt, eqb-false, lt-leb, or_cases, or_from, or_left, or_parts, or_right}
pub use Rattle.std.proofs.lemmas.Grind.{common_steps}
pub use Rattle.std.proofs.lemmas.List.{drop-append-le, drop-map, drop_all, drop_more, get_or-append-add, get_or_past, length-append, length-drop, length-map, length-reverse, map-append, map-id, nil_from_length, reverse-append, take-append-le, take-map, take_more}
pub use Rattle.std.proofs.lemmas.List.Concat.{flat_map-append, flat_map_single}
pub use Rattle.std.proofs.lemmas.List.Elements.{All-from_recursion, Contains-append_right, filter_agree, recursion_from_All}
pub use Rattle.std.proofs.lemmas.List.Sorted.{All-permutation, Contains-permutation, IsNonDecreasingBy-from_sort, IsPermutation-map, IsPermutation-sym, answers_always, list_any-IsPermutation}
pub use Rattle.std.proofs.lemmas.List.Sums.{sum_by-append, sum_by-cons, sum_by_push}
pub use Rattle.std.proofs.lemmas.Result.{IfOk-weaker, err_from_is_err_and}
pub use Rattle.std.proofs.lemmas.Str.{IsCharBoundary-end, IsCharBoundary-start, IsUtf8-append, IsUtf8-between, IsUtf8-drop, IsUtf8-from_is_utf8, IsUtf8-nil, IsUtf8-string_bytes, IsUtf8-take, chars-append, chars-nil, chars_from_encodes, encodes-append, encodes-chars, is_utf8-from_IsUtf8, len_utf8_bounds, length-encode}
pub use Rattle.std.specs.List.{AllByRecursion, replace_range}
pub use Rattle.std.specs.List.Sorted.{IsNonDecreasingBy, IsPermutation, ties}
pub use Rattle.std.specs.Prelude.{Contains, IsOk, is_ok}
pub use Rattle.std.specs.Slice.Iter.{chunks_rest, chunks_size}
pub use Rattle.std.specs.Str.{IsUtf8, chars, is_utf8}
pub use Rattle.lsp_buffer.proofs.Changes.ChangeLemmas.{replaced_length}
pub use Rattle.lsp_edit.proofs.Rests.{next_is, rest_is, rest_none, same_edited, split_between}
pub use Rattle.lsp_edit.specs.Batch.{ContentChange, Fault, InsideStart, InsideStop, Reversed, after_changes, changed_in, continue_with, ends_of, in_order, items_after, meaning, put_between}
pub use Rattle.lsp_edit.specs.Canonical.{DoTheSame, Gap, canonical, change_of_gap, gap_texts, gaps, gaps_from, is_changed, kept, put_first}
pub use Rattle.lsp_edit.specs.Compose.{item_through, then_items}
pub use Rattle.lsp_edit.specs.Delta.{AreEndsIn, AreEndsOf, IsDeltaOf, IsLeft, IsOn, IsPut, bytes_after, delta_encoding, meant_by, put_items}
pub use Rattle.lsp_edit.specs.Edited.{Applied, ArePieces, IsCurrent, Means, PiecesData, PlainData, before_bytes, both_counts, content_change, edited_bytes, edited_text, next_number}
pub use Rattle.lsp_edit.specs.Faults.{IsFaultOfChange, fault_at, places_at}
pub use Rattle.lsp_edit.specs.Indexed.{IsCanonicalBatch, alone, batch_fault_of, bytes_left, one_change, text_within}
pub use Rattle.lsp_edit.specs.Items.{Item, New, Old, character_of, plain, text_of}
pub use Rattle.lsp_edit.specs.Joined.{IsJoined, IsReached, JoinedData, joined_text}
pub use Rattle.lsp_edit.specs.Keeps.{Keeps}
pub use Rattle.lsp_edit.specs.Layers.{AllOver, AreKept, IsOver, items_over, layer_parts, owned_parts}
pub use Rattle.lsp_edit.specs.Parts.{AreParts, Ascend, IsApart, IsPartOf, NewPart, NoneEmpty, NoneTouch, OldPart, Part, bytes_in, bytes_of, index_of, items_in, items_of, new_parts, part_len, part_of, parts_of, touch}
pub use Rattle.lsp_edit.specs.TextEdits.{ComesBefore, EditsOverlap, HasRangeFault, IsBatchOfEdits, IsEditsFault, LocatedEdit, NoneOverlap, fault_of, is_taken_out, items_left, left_at, located, located_first, new_at}
pub use Rattle.lsp_edit.specs.declared.change.Change.{Change}
pub use Rattle.lsp_edit.specs.declared.fault.EditFault.{EditFault}
pub use Rattle.lsp_edit.specs.declared.fault.EditFault.TheVariants.{NoMemory, ReversedRange}
pub use Rattle.lsp_edit.specs.declared.indexed.fault.BatchFault.TheVariants.{TooLong}
pub use Rattle.lsp_edit.specs.declared.joined.layer.Layer.{Layer}
pub use Rattle.lsp_edit.specs.declared.pieces.span.Span.{Span}
pub use Rattle.lsp_edit.specs.declared.pieces.split.SplitSpans.{SplitSpans}
pub use Rattle.lsp_edit.specs.declared.text_edits.Placed.{Placed}
pub use Rattle.lsp_edit.specs.declared.text_edits.TextEdit.{TextEdit}
pub use Rattle.lsp_edit.specs.declared.text_edits.TextEditFault.{TextEditFault}
pub use Rattle.lsp_edit.specs.declared.text_edits.TextEditFault.TheVariants.{Overlap}
pub use Rattle.lsp_edit.specs.inside.Batch.{replaced}
pub use Rattle.lsp_edit.specs.inside.Before.{text_before}
pub use Rattle.lsp_edit.specs.inside.Faults.{HasRange, numbered}
pub use Rattle.lsp_edit.specs.inside.Gaps.{change_at, gap_at, gap_between}
pub use Rattle.lsp_edit.specs.inside.Layers.{AreSameItems, IsLayer, AreResolved}
pub use Rattle.lsp_edit.specs.inside.Parts.{AreBefore, AreCut, AreOrdered, ArePassed, AreThrough, EndAfter, IsCutAt, IsFirstCut, IsMark, IsOrdered, IsThrough, back_part, back_parts, between_parts, first_front, front_part, front_parts, joined, put_first_back, put_part, put_parts, put_through, replaced_parts, span_len, through_part, through_parts, old_parts, put_between_parts}
pub use Rattle.lsp_edit.specs.inside.Splits.{HasPassed, IsSplitAt, after_split, before_split, split_parts, spliced_parts}
pub use Rattle.lsp_edit.specs.inside.Drafts.{BeginsAnew, IsAfter}
pub use Rattle.lsp_edit.specs.inside.TextEdits.{AreApart, AreLeftByEdits, ArePlaced, DoOverlap, IsInOrder, Lies, located_after, located_of, parts_left}
pub use Rattle.lsp_edit.specs.laws.Batches.{AllHaveExactEnds, CanonicalLaw, HasExactEnds, KeepsPairs, RangesStay}
pub use Rattle.lsp_text.proofs.Positions.PlaceLemmas.{IsIndexAt, drop_place, index_at, part_place, place_add, place_boundary, place_end, place_order, place_rises, place_within, take_place}
pub use Rattle.lsp_text.proofs.Positions.PositionLemmas.{IsWhole, denoted_whole, exact_denotes}
pub use Rattle.lsp_text.proofs.TextLines.LineLemmas.{splits_none_past}
pub use Rattle.lsp_text.proofs.TextLines.SpliceLemmas.{numbers_split}
pub use Rattle.lsp_text.specs.LineStarts.{IsPlace}
pub use Rattle.lsp_text.specs.Positions.{denoted, exact_position}
pub use Rattle.lsp_text.specs.Text.{place_of}
pub use Rattle.lsp_text.specs.TextLines.{numbers_from, splits_crlf}
pub use Rattle.lsp_text.specs.Units.{units_in}
pub use Rattle.lsp_text.specs.declared.encoding.Encoding.{Encoding}
pub use Rattle.lsp_text.specs.declared.position.Position.{Position}
pub use Rattle.lsp_text.specs.declared.position.Range.{Range}
