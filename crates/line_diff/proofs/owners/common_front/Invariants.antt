use Rattle.line_diff.proofs.Prelude.{◌≡◌, ◌-◌, common_front, differ_at, first_with}
use Rattle.line_diff.proofs.owners.common_front.Given as goal

abbrev pub invariant-loop-count : goal.invariant-loop-count
invariant-loop-count l = common_front l.text l.other ≡ first_with (differ_at l.text l.other) (l.most - l.count) l.count
