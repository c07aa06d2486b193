use Rattle.line_diff.proofs.Prelude.{◌≡◌, drop, stacked}
use Rattle.line_diff.proofs.repeats.remove_last.Given as goal

abbrev pub invariant-loop-left : goal.invariant-loop-left
invariant-loop-left l = drop l.left (stacked l.repeats.items) ≡ drop l.count (stacked l.fn.repeats.items)

abbrev pub decreases-loop-left : goal.decreases-loop-left
decreases-loop-left l = l.left
