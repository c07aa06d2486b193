use Rattle.lsp_buffer.proofs.Prelude.{arith, common_steps}
use Rattle.lsp_buffer.proofs.Blocks.BlockLemmas.{blocks_few}
use Rattle.lsp_buffer.proofs.text_buffer.TextBuffer.block_count.Goals as goal

pub returns-clause-few : goal.returns-clause-few
returns-clause-few c = grind (arith, common_steps, blocks_few, c.self.invariant.0.are, c.self.view_is)
