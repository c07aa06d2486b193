use Rattle.line_diff.proofs.Prelude.{◌≡◌, ◌-◌, map, first_found, gap_at, next_gap}
use Rattle.line_diff.proofs.hunks.next_gap.Given as goal

abbrev pub invariant-loop-most : goal.invariant-loop-most
invariant-loop-most l =
    next_gap l.farthest (map (λ line. line.now) l.lines) (map (λ line. line.now) l.others)
    ≡ first_found (gap_at (map (λ line. line.now) l.lines) (map (λ line. line.now) l.others)) (l.limit - l.most) l.most
