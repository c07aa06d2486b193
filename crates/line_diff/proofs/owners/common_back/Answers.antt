use Rattle.line_diff.proofs.Prelude.{arith, common_steps}
use Rattle.line_diff.proofs.FirstLemmas.{first_passed, same_number}
use Rattle.line_diff.proofs.owners.common_back.Goals as goal

pub loop-count-preserved : goal.loop-count-preserved
loop-count-preserved c =
    grind (arith, common_steps, first_passed, same_number, c.loop-count.invariant, c.if-text-count.false)
