use Rattle.line_diff.proofs.Prelude.{append_assoc, row_numbers}
use Rattle.std.specs.Prelude.{◌*◌}
use Rattle.line_diff.proofs.NumberLemmas.{number_after}
use Rattle.line_diff.specs.Report.{alike_words}
use Rattle.line_diff.proofs.report.push_alike.Goals as goal

pub returns : goal.returns
unfolding alike_words
returns c =
    rw (
      c.in_ok-push_alone-2.ensures,
      c.in_ok-push_alone.ensures,
      c.in_ok-push_ends.ensures,
      c.number_at.ensures,
      c.from_place.ensures,
      number_after (2 * c.first_end.result) 1 (row_numbers c.args.numbers),
      c.first_end.ensures,
      c.have_same_marks.ensures,
      c.in_ok-push_words.ensures,
      c.have_same_ends.ensures,
      c.has_last_end.ensures,
      c.has_last_end-2.ensures,
      c.has_mark.ensures,
      c.has_mark-2.ensures,
    )
    (simp append_assoc)
