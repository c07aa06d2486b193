-- What more than one proof of this crate imports, so that each names it by one line.
pub use Rattle.std.proofs.Common.{Bool, Bor, List, None, Option, Some, [], add-one, ap, append_assoc, arith, chars, get_or, inl, inr, refl, rules, suc, sym, true, zero, ℕ, ◌+◌, ◌<◌, ◌∙◌, ◌∷◌, ◌⊎◌}
pub use Rattle.std.proofs.lemmas.Bool.Decides.{Decides-eqb, nat_tests}
pub use Rattle.std.proofs.lemmas.Grind.{common_steps}
pub use Rattle.std.proofs.lemmas.List.{at_drop_more, drop-drop, drop-map, drop_more, get_or-map, length-drop, length-map, map-append, map-id, replicate-append-replicate, take_rest}
pub use Rattle.std.specs.List.{between}
pub use Rattle.std.specs.Prelude.{codes, drop, false, flat_map, length, map, not, slice_get, take, ◌++◌, ◌-◌, ◌==◌, ◌≡◌, ◌≤◌}
pub use Rattle.line_diff.specs.Common.{are_equal, common_back, common_front, differ_at, differ_back_at, first_with}
pub use Rattle.line_diff.specs.Hunks.{agreed, best_from, best_gap, better, differ_from, first_found, gap_at, gap_of, hunk_of, hunks_from, hunks_of, next_gap}
pub use Rattle.line_diff.specs.Lines.{ends_line, lines_begun, lines_of}
pub use Rattle.line_diff.specs.Makers.{greatest, rows_of, seconds, with_numbers}
pub use Rattle.line_diff.specs.Repeats.{numbers_in, numbers_of, row_numbers, stacked}
pub use Rattle.line_diff.specs.Report.{alike_words, difference_words, file_line_at, hunk_words, later_number, own_line_at, words_from}
pub use Rattle.line_diff.specs.Shown.{shown_char, sign_of}
