use Rattle.lsp_buffer.proofs.Prelude.{take, concat, HasWritten, IsPlainFormatter}
use Rattle.lsp_buffer.proofs.text_buffer.TextBufferDisplay.fmt.Given as goal

abbrev pub invariant-loop-block : goal.invariant-loop-block
invariant-loop-block g l = IsPlainFormatter l.initial.f → HasWritten g.W.Write.write_str_gives l.initial.f
    (concat (take l.block-index l.block-items)) l.f
