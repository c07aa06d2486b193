use Rattle.lsp_buffer.proofs.Prelude.{BeginsBefore}
use Rattle.lsp_buffer.proofs.find.find_from.Given as goal

abbrev pub invariant-loop-index : goal.invariant-loop-index
invariant-loop-index l = BeginsBefore l.blocks l.target (record { index = l.index; before = l.before })
