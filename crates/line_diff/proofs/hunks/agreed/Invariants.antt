use Rattle.line_diff.proofs.Prelude.{◌≡◌, ◌-◌, ◌<◌, agreed, differ_from, first_with, length, map}
use Rattle.line_diff.proofs.hunks.agreed.Given as goal

abbrev pub invariant-loop-count : goal.invariant-loop-count
invariant-loop-count l = record {
  value : agreed (map (λ line. line.now) l.lines) (map (λ line. line.now) l.others)
      ≡ first_with (differ_from (map (λ line. line.now) l.lines) (map (λ line. line.now) l.others))
      (100 - l.count) l.count;
  within : 0 < l.count → (0 < length l.lines) × (0 < length l.others);
}
