use Rattle.line_diff.proofs.Prelude.{arith, common_steps, map, rules, ◌∙◌, Bor, List, ℕ}
use Rattle.line_diff.specs.Hunks.{best_gap}
use Rattle.line_diff.proofs.GapLemmas.{best_passed}
use Rattle.line_diff.proofs.hunks.best_gap.Goals as goal

pub loop-fewer-init : goal.loop-fewer-init
unfolding best_gap
loop-fewer-init c = search rules

pub loop-fewer-preserved : goal.loop-fewer-preserved
loop-fewer-preserved c =
    let lines = map (λ (line : Bor (List ℕ)). line.now) c.args.lines.now in
    let others = map (λ (line : Bor (List ℕ)). line.now) c.args.others.now in
    record {
      value = c.loop-fewer.invariant.value
          ∙ best_passed lines others c.args.most c.args.most c.loop-fewer.fewer c.loop-fewer.best c.gap_of.result
          c.better-best.result c.gap_of-in-loop-fewer.result c.better-best-in-loop-fewer.result c.loop-fewer-test.true
          c.gap_of.ensures.value c.better-best.ensures c.gap_of-in-loop-fewer.ensures.value
          c.better-best-in-loop-fewer.ensures;
      within = grind (
        arith,
        common_steps,
        c.loop-fewer.invariant.within,
        c.gap_of.ensures.within,
        c.gap_of-in-loop-fewer.ensures.within,
        c.better-best.ensures,
        c.better-best-in-loop-fewer.ensures,
      );
    }
