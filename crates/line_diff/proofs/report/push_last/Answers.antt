use Rattle.line_diff.proofs.Prelude.{append_assoc}
use Rattle.line_diff.specs.Report.{last_maker_words}
use Rattle.line_diff.proofs.report.push_last.Goals as goal

pub returns : goal.returns
unfolding last_maker_words
returns c =
    rw (c.in_ok-push_number.ensures, c.in_ok-push_words.ensures, c.if-not-are_more.false)
    (simp append_assoc)
