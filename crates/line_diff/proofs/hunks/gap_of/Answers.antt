use Rattle.line_diff.proofs.Prelude.{arith, common_steps, drop-map}
use Rattle.line_diff.proofs.hunks.gap_of.Goals as goal

pub returns-clause-value : goal.returns-clause-value
returns-clause-value c =
    grind (arith, common_steps, drop-map, c.agreed.ensures.value, c.lines_from.ensures, c.lines_from-2.ensures)
