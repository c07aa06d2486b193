-- What more than one proof of this crate imports, so that each names it by one line.
pub use Rattle.std.proofs.Common.{All, Bool, Err, FitsSigned, IfErr, IfOk, IfSome, IsTrue, IsUtf8, List, None, Ok, OnOk, Option, Result, Some, String, [], ap, append-nil, ap₂, arith, bytes_eq, cond, drop, encode_utf8, encode_utf8_all, eq-eqb, false, filter, if◌then◌else◌, inl, inr, int_le, is_some, length, length-append, map, nat_le, nat_lt, not, of_z, option_map, position, refl, reverse, rules, slice_get, slice_index, string_bytes, string_len, subst, suc, sum_by, sym, take, to_z, true, true≢false, w32, zero, ℕ, ℤ, ⊎_elim, ◌&&◌, ◌++◌, ◌+◌, ◌-◌, ◌<◌, ◌==◌, ◌^◌, ◌||◌, ◌↔◌, ◌∙◌, ◌∷◌, ◌≡◌, ◌≤◌, ◌⊎◌}
pub use Rattle.std.proofs.lemmas.Bool.{and_from, and_parts, cases_Bool, cases_eq, cases_lt, false≢true, le-leb, le-ltb, leb-false, lt-leb, lt-ltb, ltb-false, ne_eqb, or_from, or_left, or_parts, or_right}
pub use Rattle.std.proofs.lemmas.Grind.{common_steps}
pub use Rattle.std.proofs.lemmas.Int.{to_z-of_z}
pub use Rattle.std.proofs.lemmas.List.{append_assoc, drop-drop, drop_all, length-map, length-take, length-take-le, map-append, reverse-append, take-append-drop, take_all, take_at}
pub use Rattle.std.proofs.lemmas.List.Sums.{sum_by-append, sum_by-cons, sum_by-le-sum_by, sum_by-take-drop, sum_by-take-le, sum_by_push}
pub use Rattle.std.proofs.lemmas.Option.{slice_get-map}
pub use Rattle.std.proofs.lemmas.Result.{IfErr-weaker, IfOk-weaker, err_from_is_err_and, on_ok_weaker}
pub use Rattle.std.proofs.lemmas.Slice.Eq.{bytes_eq-Decides}
pub use Rattle.std.proofs.lemmas.Str.{IsCharBoundary-start, IsUtf8-between, IsUtf8-past_char, IsUtf8-string_bytes, IsUtf8-take, chars-append, chars-nil, chars_from_encodes, chars_past_char, encodes-append, encodes-chars, encodes_same, len_utf8_bounds, length-encode, scalars-chars}
pub use Rattle.std.specs.Char.{len_utf8}
pub use Rattle.std.specs.Map.{lookup, lookup_key, remove_entry}
pub use Rattle.std.specs.Prelude.{IsOk, ⊤}
pub use Rattle.std.specs.Str.{IsCharBoundary, all_scalars, chars}
pub use Rattle.std.specs.Str.Iter.{chars_rest}
pub use Rattle.std.specs.declared.alloc.Global.{Global}
pub use Rattle.lsp_edit.proofs.Batches.LawLemmas.{canonical_law, units_some}
pub use Rattle.lsp_edit.specs.Batch.{ContentChange, Fault, InsideStart, InsideStop, after_changes, changed_in, continue_with, items_after, meaning}
pub use Rattle.lsp_edit.specs.Canonical.{Gap, canonical, change_of_gap, gaps, is_changed}
pub use Rattle.lsp_edit.specs.Delta.{IsDeltaOf, IsOn, bytes_after, delta_encoding, meant_by}
pub use Rattle.lsp_edit.specs.Edited.{content_change}
pub use Rattle.lsp_edit.specs.Indexed.{bytes_left, text_within}
pub use Rattle.lsp_edit.specs.Items.{Item, New, Old, plain, text_of}
pub use Rattle.lsp_edit.specs.declared.change.Change.{Change}
pub use Rattle.lsp_edit.specs.declared.indexed.fault.BatchFault.{BatchFault}
pub use Rattle.lsp_edit.specs.laws.Batches.{AllHaveExactEnds, HasExactEnds, IsCanonical}
pub use Rattle.lsp_frame.specs.Frame.{frame}
pub use Rattle.lsp_frame.specs.Limits.{AreInRange, LimitsData}
pub use Rattle.lsp_message.specs.Params.{DocumentItem}
pub use Rattle.lsp_message.specs.laws.Sent.{IsProper, IsProperEdit, IsProperPosition, IsProperRange, IsReadAsSent, IsReadBack}
pub use Rattle.lsp_store.specs.Faults.{IsRefusal, refusal_fault, store_fault_of, store_fault_of_encode}
pub use Rattle.lsp_store.specs.Limits.{AreWithin}
pub use Rattle.lsp_store.specs.Message.{AreTexts, DoAlike, IsCanonicalOf, IsReadAgain, body_refusal, canonical_batch, canonical_body, canonical_frame, change_body, else_refused, message_refusal, whole_text, written_content_change}
pub use Rattle.lsp_store.specs.Opened.{ChangeMayAllocate, IsRefused, StoreData, Takes, entry_of, entry_under}
pub use Rattle.lsp_store.specs.Plan.{IsPlanOf, IsPlanOn, after_plan, planned, planned_table}
pub use Rattle.lsp_store.specs.Squash.{HasReached, IsSquashAfter, SquashData, add_refusal, reached_entry, squash_after, squash_batch, squash_refusal, squash_under}
pub use Rattle.lsp_store.specs.Table.{Command, IsLeftToMeaning, Refusal, after_change, after_close, after_open, batch_bytes, change_refusal, changed, changes, closes, edit, entry_at, entry_refusal, greatest_batch, is_stale, is_taken, meaning_refusal, meant_text, open_refusal, opens, refusal_on, table_after, table_from, too_many_changes}
pub use Rattle.lsp_store.specs.declared.fault.StoreFault.{StoreFault}
pub use Rattle.lsp_store.specs.declared.fault.StoreFault.TheVariants.{NoMemory, NotOpen, TextTooLong, TooManyChanges, TooManyDocuments}
pub use Rattle.lsp_store.specs.declared.store.plan.Plan.{Plan}
pub use Rattle.lsp_store.specs.declared.store.stored.Stored.{Stored}
pub use Rattle.lsp_store.specs.laws.Tables.{AllWithin, AreAccepted, AreUnique, CanonicalBatchLaw, GreaterLimitsLaw, IsInOrder, IsWithin, LastLaw, TableLaw, UniqueLaw, WholeTextLaw, WithinLaw}
pub use Rattle.lsp_text.specs.TextLines.{line_at, line_start, numbers_from}
pub use Rattle.lsp_text.specs.Units.{units_between, units_in}
pub use Rattle.lsp_text.specs.declared.encoding.Encoding.{Encoding}
pub use Rattle.lsp_text.specs.declared.encoding.Encoding.TheVariants.{Utf16, Utf32, Utf8}
pub use Rattle.lsp_text.specs.laws.Units.{utf16_bounds, utf32_bounds, utf8_bounds}
pub use Rattle.ordered_map.specs.Entries.{is_key, set_value_at}
