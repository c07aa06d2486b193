use Rattle.lsp_text.proofs.Prelude.{arith, common_steps}
use Rattle.lsp_text.proofs.Counting.BlockLemmas.{block_more, blocks_all}
use Rattle.lsp_text.proofs.position.in_line.units_of_bytes.Goals as goal
use Rattle.std.proofs.lemmas.Grind.{common_steps}

pub loop-block-preserved : goal.loop-block-preserved
loop-block-preserved g c = record {
  counted = grind (arith, common_steps, block_more, c.loop-block.invariant.counted, c.units_of_block.ensures);
  few = omega (arith, c.loop-block.invariant.few, c.units_of_block.type_inv);
}

pub returns : goal.returns
returns g c =
    grind (arith, common_steps, blocks_all)
