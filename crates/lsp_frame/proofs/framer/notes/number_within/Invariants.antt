use Rattle.lsp_frame.proofs.Prelude.{◌≡◌, ◌≤◌, ℕ, ◌+◌, ◌*◌, ◌-◌, drop, fold, number}
use Rattle.lsp_frame.proofs.framer.notes.number_within.Given as goal

abbrev pub invariant-loop-b : goal.invariant-loop-b
invariant-loop-b l = record {
  small : l.n ≤ l.most;
  is : fold (λ (n b : ℕ). 10 * n + (b - 48)) l.n (drop l.b-index l.digits) ≡ number l.digits;
}
