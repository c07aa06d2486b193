use Rattle.line_diff.proofs.Prelude.{append_assoc, arith, common_steps}
use Rattle.line_diff.proofs.ReportLemmas.{words_more}
use Rattle.line_diff.proofs.report.Sides.push_file_lines.Goals as goal

pub loop-index-preserved : goal.loop-index-preserved
loop-index-preserved c = grind (arith, common_steps, append_assoc, words_more)
