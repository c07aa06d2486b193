use Rattle.line_diff.proofs.Prelude.{append_assoc}
use Rattle.line_diff.specs.Report.{ends_words}
use Rattle.line_diff.proofs.report.push_ends.Goals as goal

pub returns : goal.returns
unfolding ends_words
returns c =
    rw (
      c.in_ok-push_words-3.ensures,
      c.in_ok-push_number.ensures,
      c.in_ok-push_words-2.ensures,
      c.in_ok-push_words.ensures,
      c.if-same.false,
      c.if-not-known.false,
    ) (simp append_assoc)
