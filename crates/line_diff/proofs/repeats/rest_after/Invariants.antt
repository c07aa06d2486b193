use Rattle.line_diff.proofs.Prelude.{◌≡◌, drop, numbers_in}
use Rattle.line_diff.proofs.repeats.rest_after.Given as goal

abbrev pub invariant-loop-left : goal.invariant-loop-left
invariant-loop-left l = drop l.left (numbers_in l.later) ≡ drop l.count (numbers_in l.repeats)

abbrev pub decreases-loop-left : goal.decreases-loop-left
decreases-loop-left l = l.left
