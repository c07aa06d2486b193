use Rattle.lsp_frame.proofs.Prelude.{◌≡◌, [], ℕ, false, take, map, Vec, Global, flat_map, IsFrame, HasTaken}
use Rattle.lsp_frame.proofs.stream.take_pieces.Given as goal

abbrev pub invariant-loop-piece : goal.invariant-loop-piece
invariant-loop-piece l = record {
  none : IsFrame l.framer.limits.max_body l.framer.buffered → ⊥;
  sound : l.framer.failed ≡ false;
  rest_after : (max_body : ℕ) → HasTaken max_body [] (map (λ (v : Vec ℕ Global). v.items) l.fn.bodies.items) l.fn.framer
      → HasTaken max_body (flat_map (λ (p : Vec ℕ Global). p.items) (take l.piece-index l.pieces))
      (map (λ (v : Vec ℕ Global). v.items) l.bodies.items) l.framer;
}
