use Rattle.lsp_buffer.proofs.Prelude.{◌-◌}
use Rattle.lsp_buffer.proofs.Queries.CopyLemmas.{IsCopied}
use Rattle.lsp_buffer.proofs.text_buffer.TextBuffer.copy_to.Given as goal

abbrev pub invariant-loop-copied : goal.invariant-loop-copied
invariant-loop-copied l = IsCopied l.self l.fn.out l.out l.start l.end l.copied

abbrev pub decreases-loop-copied : goal.decreases-loop-copied
decreases-loop-copied l = l.end - l.copied
