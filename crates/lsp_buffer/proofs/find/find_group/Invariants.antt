use Rattle.lsp_buffer.proofs.Prelude.{◌*◌, BeginsBefore}
use Rattle.lsp_buffer.proofs.find.find_group.Given as goal

abbrev pub invariant-loop-number : goal.invariant-loop-number
invariant-loop-number l = BeginsBefore l.blocks l.target (record { index = 32 * l.number; before = l.before })
