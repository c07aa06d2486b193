use Rattle.lsp_frame.proofs.Prelude.{◌≡◌, ℕ, ◌-◌, ◌<◌, true, List, ◌++◌, take, get_or, IsPartOfLine, is_over}
use Rattle.lsp_frame.proofs.framer.shape.Shape.check.Given as goal

abbrev pub invariant-loop-i : goal.invariant-loop-i
invariant-loop-i l = record {
  so_far : (part : List ℕ) → IsPartOfLine l.fn.self part → IsPartOfLine l.shape (part ++ take l.i l.piece);
  over : is_over l.shape ≡ true → (0 < l.i) × (get_or l.piece (l.i - 1) 0 ≡ 10);
}
