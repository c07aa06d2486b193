use Rattle.lsp_text.proofs.Prelude.{◌∙◌, arith, common_steps}
use Rattle.lsp_text.proofs.TextLines.SearchLemmas.{looks_one, looked_low, looked_high}
use Rattle.lsp_text.proofs.lines.starts.line_of.Goals as goal

pub loop-high-preserved-then-at-place : goal.loop-high-preserved-then-at-place
loop-high-preserved-then-at-place g c =
    let kept = c.loop-high.invariant in
    record {
      same = c.at.ensures.unchanged ∙ kept.same;
      order = omega (arith, c.loop-high-test.true);
      within = kept.within;
      at_most = looked_low _ _ _ _ _ kept.same c.at.ensures.start c.if-at-place.true;
      above = kept.above;
      looks = grind (arith, common_steps, looks_one, c.loop-high-test.true, c.at.ensures.counted);
    }

pub loop-high-preserved : goal.loop-high-preserved
loop-high-preserved g c =
    let kept = c.loop-high.invariant in
    record {
      same = c.at.ensures.unchanged ∙ kept.same;
      order = omega (arith, c.loop-high-test.true);
      within = omega (arith, kept.within, kept.order);
      at_most = kept.at_most;
      above = looked_high _ _ _ _ _ kept.same c.at.ensures.start c.if-at-place.false (g.met.S.Starts.are_starts _);
      looks = grind (arith, common_steps, looks_one, c.loop-high-test.true, c.at.ensures.counted);
    }
