use Rattle.line_diff.proofs.Prelude.{append_assoc, arith, common_steps}
use Rattle.line_diff.specs.Report.{hunk_words}
use Rattle.line_diff.proofs.report.Sides.push_hunk.Goals as goal

pub returns : goal.returns
unfolding hunk_words
returns c = grind (arith, common_steps, append_assoc)
