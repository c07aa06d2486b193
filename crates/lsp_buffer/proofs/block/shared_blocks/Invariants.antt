use Rattle.lsp_buffer.proofs.Prelude.{◌≡◌, take}
use Rattle.lsp_buffer.proofs.block.shared_blocks.Given as goal

abbrev pub invariant-loop-block : goal.invariant-loop-block
invariant-loop-block l = l.shared.items ≡ take l.block-index l.blocks
