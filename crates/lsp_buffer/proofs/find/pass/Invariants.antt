use Rattle.lsp_buffer.proofs.Prelude.{IsPassed}
use Rattle.lsp_buffer.proofs.find.pass.Given as goal

abbrev pub invariant-loop-index : goal.invariant-loop-index
invariant-loop-index l = IsPassed l.blocks l.target l.index l.len l.ends
