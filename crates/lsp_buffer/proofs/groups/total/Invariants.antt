use Rattle.lsp_buffer.proofs.Prelude.{◌≡◌, take, concat, counts_of}
use Rattle.lsp_buffer.proofs.groups.total.Given as goal

abbrev pub invariant-loop-block : goal.invariant-loop-block
invariant-loop-block l = l.counts ≡ counts_of (concat (take l.block-index l.blocks))
