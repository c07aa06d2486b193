use Rattle.line_diff.proofs.Prelude.{◌≡◌, ◌-◌, common_front, differ_at, first_with}
use Rattle.line_diff.proofs.shown.equal_front.Given as goal

abbrev pub invariant-loop-count : goal.invariant-loop-count
invariant-loop-count l =
    common_front l.characters l.others ≡ first_with (differ_at l.characters l.others) (l.most - l.count) l.count
