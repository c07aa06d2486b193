use Rattle.lsp_edit.proofs.Prelude.{◌≡◌}
use Rattle.lsp_edit.proofs.joined.Joined.join.Given as goal

abbrev pub invariant-loop : goal.invariant-loop
invariant-loop l = l.self ≡ l.initial.self
