use Rattle.line_diff.proofs.Prelude.{◌≡◌, ap, arith, are_equal, common_steps, differ_from, length-map, map, not, rules, slice_get, true, ◌∙◌, Bor, List, ℕ}
use Rattle.line_diff.specs.Hunks.{agreed}
use Rattle.line_diff.proofs.FirstLemmas.{first_passed}
use Rattle.line_diff.proofs.GapLemmas.{both_there}
use Rattle.line_diff.proofs.hunks.agreed.Goals as goal

pub loop-count-init : goal.loop-count-init
unfolding agreed
loop-count-init c = search rules

pub loop-count-preserved : goal.loop-count-preserved
loop-count-preserved c =
    let lines = map (λ (line : Bor (List ℕ)). line.now) c.args.lines.now in
    let others = map (λ (line : Bor (List ℕ)). line.now) c.args.others.now in
    let equal : are_equal (slice_get lines c.loop-count.count) (slice_get others c.loop-count.count) ≡ true =
    grind (
      arith,
      common_steps,
      c.line_at.ensures,
      c.line_at-in-loop-count.ensures,
      c.are_equal.ensures,
      c.if-not-are_equal.false,
    ) in
    let there = both_there lines others c.loop-count.count equal in
    let passed = first_passed (differ_from lines others) 100 c.loop-count.count c.loop-count-test.true (ap not equal) in
    record {
      value = c.loop-count.invariant.value ∙ passed;
      within = λ more. grind (arith, common_steps, length-map, there.0, there.1);
    }
