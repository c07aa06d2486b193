use Rattle.lsp_buffer.proofs.Prelude.{◌≡◌, length, AreGroups}
use Rattle.lsp_buffer.proofs.groups.fill.Given as goal

abbrev pub invariant-loop-group : goal.invariant-loop-group
invariant-loop-group l = record { are : AreGroups l.blocks l.groups.items; count : length l.groups.items ≡ l.group }
