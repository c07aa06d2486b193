-- What more than one proof of this crate imports, so that each names it by one line.
pub use Rattle.std.proofs.Common.{Bool, List, None, Option, Some, [], ap, arith, cond, drop, eq-eqb, eqb-true, false, filter, find, get_or, if◌then◌else◌, inl, inr, le-leb, le-ltb, leb, length, length-drop, lt-ltb, ltb, ltb-false, ltb-true, map, nat_le, nat_lt, not, option_map, pow-suc, refl, set, slice_index, subst, suc, sum_by, sym, take, true, zero, ℕ, ⊎_elim, ◌&&◌, ◌*◌, ◌++◌, ◌+◌, ◌-◌, ◌/◌, ◌<◌, ◌==◌, ◌^◌, ◌||◌, ◌∙◌, ◌∷◌, ◌≡◌, ◌≢◌, ◌≤◌, ◌⊎◌}
pub use Rattle.std.proofs.Math.Seq.{drop-cons, take-add, take-suc}
pub use Rattle.std.proofs.Math.Utf8.{encode, scalar, scalars}
pub use Rattle.std.proofs.lemmas.Bool.{and_cases, and_from, and_parts, and_right, cases_Bool, cases_eq, cases_lt, cases_order, cond_both, eqb-false, false_from_ne_true, false≢true, leb-true, lt-leb, ne_eqb, not-true, not_from_false, or_cases, or_right}
pub use Rattle.std.proofs.lemmas.Bool.Decides.{nat_tests}
pub use Rattle.std.proofs.lemmas.Grind.{common_steps}
pub use Rattle.std.proofs.lemmas.List.{append-nil, append_assoc, drop-drop, drop-take, drop_all, drop_at, drop_more, get_or-append_right, get_or-drop, get_or-map, get_or-take, get_or_append_left, get_or_default, get_or_past, length-append, length-map, length-take, length-take-le, map-id, set-append_right, take-append-drop, take-take, take_all, take_at, take_rest}
pub use Rattle.std.proofs.lemmas.List.Sums.{prefix_len_is, prefix_len_passes, sum_by-append, sum_by-cons, sum_by-le-sum_by, sum_by-take-drop, sum_by-take-le, sum_by_more}
pub use Rattle.std.proofs.lemmas.Str.{IsCharBoundary-from_take, IsUtf8-between, IsUtf8-take, chars-append, chars_from_encodes, encode_ascii, encodes-append, encodes-chars, len_utf8_ascii, len_utf8_bounds, length-encode, length-le-encodes, scalars-chars}
pub use Rattle.std.specs.Char.{len_utf8}
pub use Rattle.std.specs.List.{prefix_len}
pub use Rattle.std.specs.Prelude.{Err, IsTrue, Ok, OnErr, OnOk, Result, codes, encode_utf8_all, ◌↔◌}
pub use Rattle.std.specs.Str.{IsCharBoundary, IsUtf8, chars}
pub use Rattle.lsp_text.specs.Leads.{lead_units_utf16, lead_units_utf32}
pub use Rattle.lsp_text.specs.LineStarts.{AreLinesOf, IsPlace, line_starts, start_places, starts_between}
pub use Rattle.lsp_text.specs.Positions.{denoted, exact_position}
pub use Rattle.lsp_text.specs.Starts.{AreStarts, IsLineOf}
pub use Rattle.lsp_text.specs.Text.{place_of}
pub use Rattle.lsp_text.specs.TextLines.{carriage_return, first_or, is_in_content, last_or, line_at, line_content, line_ends, line_feed, line_start, line_stop, numbers_from, splits_crlf, starts_line}
pub use Rattle.lsp_text.specs.Units.{name_of, units_between, units_in}
pub use Rattle.lsp_text.specs.declared.encoding.Encoding.{Encoding}
pub use Rattle.lsp_text.specs.declared.encoding.Encoding.TheVariants.{Utf16, Utf32, Utf8}
pub use Rattle.lsp_text.specs.declared.position.Position.{Position}
pub use Rattle.lsp_text.specs.inside.Leads.{FirstHas, HaveNone, byte_place, line_place}
pub use Rattle.lsp_text.specs.laws.Lines.{IsLineEnd, LinesPart, StartsLaw, line_end_of}
pub use Rattle.lsp_text.specs.laws.Units.{utf16_bounds, utf32_bounds, utf8_bounds}
pub use Rattle.memchr.specs.Find.{is_byte2, places, places_from}
