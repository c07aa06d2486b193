use Rattle.line_diff.proofs.Prelude.{◌≡◌, ◌-◌, common_back, differ_back_at, first_with}
use Rattle.line_diff.proofs.owners.common_back.Given as goal

abbrev pub invariant-loop-count : goal.invariant-loop-count
invariant-loop-count l =
    common_back l.front l.text l.other
    ≡ first_with (differ_back_at l.text l.other) (l.most - l.count) l.count
