use Rattle.line_diff.proofs.Prelude.{◌≡◌, ◌-◌, ◌<◌, best_from, best_gap, length, map}
use Rattle.line_diff.proofs.hunks.best_gap.Given as goal

abbrev pub invariant-loop-fewer : goal.invariant-loop-fewer
invariant-loop-fewer l = record {
  value : best_gap (map (λ line. line.now) l.lines) (map (λ line. line.now) l.others) l.most
      ≡ best_from (map (λ line. line.now) l.lines) (map (λ line. line.now) l.others) l.most
      (l.most - l.fewer) l.fewer l.best;
  within : 0 < l.best.agreed → (l.best.lines < length l.lines) × (l.best.others < length l.others);
}
