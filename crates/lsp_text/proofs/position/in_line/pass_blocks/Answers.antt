use Rattle.lsp_text.proofs.Prelude.{◌∙◌, arith}
use Rattle.lsp_text.proofs.Counting.BlockLemmas.{pass_block}
use Rattle.lsp_text.proofs.position.in_line.pass_blocks.Goals as goal

pub loop-place-preserved : goal.loop-place-preserved
loop-place-preserved g c = record {
  within = omega (arith, c.loop-place-test.true, c.loop-place.invariant.within);
  rest =
      pass_block g.L.LeadUnits.lead_units c.args.bytes.now c.loop-place.place g.row.N c.loop-place.left
      c.from-units.result _ (omega (arith, c.loop-place-test.true, c.loop-place.invariant.within))
      (c.from-units.ensures ∙ c.units_of_block.ensures) c.if-left-units.false c.loop-place.invariant.rest;
}
