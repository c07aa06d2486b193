use Rattle.lsp_buffer.proofs.Prelude.{◌≡◌, ◌++◌, take, concat}
use Rattle.lsp_buffer.proofs.block.are_text.Given as goal

abbrev pub invariant-loop-block : goal.invariant-loop-block
invariant-loop-block l = concat (take l.block-index l.blocks) ++ l.rest ≡ l.bytes
