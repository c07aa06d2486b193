use Rattle.line_diff.proofs.Prelude.{arith, common_steps, length-map, rules}
use Rattle.line_diff.specs.Hunks.{next_gap}
use Rattle.line_diff.proofs.GapLemmas.{found_later}
use Rattle.line_diff.proofs.hunks.next_gap.Goals as goal

pub returns-then-are_equal-clause-value : goal.returns-then-are_equal-clause-value
unfolding next_gap
returns-then-are_equal-clause-value c = search rules

pub loop-most-init : goal.loop-most-init
unfolding next_gap
loop-most-init c =
    grind (
      arith,
      common_steps,
      length-map,
      c.line_at.ensures,
      c.line_at-2.ensures,
      c.are_equal.ensures,
      c.if-are_equal.false,
    )

pub loop-most-preserved : goal.loop-most-preserved
loop-most-preserved c =
    grind (arith, common_steps, found_later, c.loop-most.invariant, c.gap_at-found.ensures.value, c.if-is_some.false)
