use Rattle.lsp_frame.proofs.Prelude.{◌≡◌, ◌-◌, ◌≤◌, ◌++◌, ℕ, List, false, length, take, map, Vec, Global, IsFrame, HasTaken}
use Rattle.lsp_frame.proofs.stream.take_frames.Given as goal

abbrev pub invariant-loop-at : goal.invariant-loop-at
invariant-loop-at l = record {
  within : l.at ≤ length l.piece;
  none : IsFrame l.framer.limits.max_body l.framer.buffered → ⊥;
  sound : l.framer.failed ≡ false;
  taken : (max_body : ℕ) (stream : List ℕ)
      → HasTaken max_body stream (map (λ (v : Vec ℕ Global). v.items) l.fn.bodies.items) l.fn.framer →
      HasTaken max_body (stream ++ take l.at l.piece) (map (λ (v : Vec ℕ Global). v.items) l.bodies.items) l.framer;
}

abbrev pub decreases-loop-at : goal.decreases-loop-at
decreases-loop-at l = length l.piece - l.at
