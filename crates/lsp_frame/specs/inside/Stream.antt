-- What only proofs and private contracts use of `Stream`.
use Rattle.std.specs.Prelude.{ℕ, ◌≡◌, List, length, ◌-◌}
use Rattle.std.specs.Prelude.{false}
use Rattle.lsp_frame.specs.Frame.{IsHopeless}
use Rattle.lsp_frame.specs.Faults.{IsDecided, place_after}
use Rattle.lsp_frame.specs.declared.fault.FrameFault.{FrameFault}
use Rattle.lsp_frame.specs.Stream.{FramerData, IsFrame, IsPart, AreFrames}

-- A framer has released the frames of a stream with these bodies, and has buffered one more or a
-- part of one.
pub record IsHolding (max_body : ℕ) (stream : List ℕ) (bodies : List (List ℕ))
    (framer : FramerData) : Type 0 where
  pub framed : AreFrames max_body stream bodies framer.buffered
  pub place : framer.place ≡ place_after 0 (length stream - length framer.buffered)
  pub sound : framer.failed ≡ false
  pub part : IsPart max_body framer.buffered
  pub limit : framer.limits.max_body ≡ max_body

-- A framer has released the frames of a stream with these bodies, and what it has buffered is no
-- whole frame.
pub record HasTaken (max_body : ℕ) (stream : List ℕ) (bodies : List (List ℕ))
    (framer : FramerData) : Type 0 where
  pub holding : IsHolding max_body stream bodies framer
  pub none : IsFrame max_body framer.buffered → ⊥

-- A fault was decided after frames of the stream with these bodies.
pub record IsFaulty (max_body : ℕ) (stream : List ℕ) (bodies : List (List ℕ))
    (fault : FrameFault) : Type 0 where
  pub rest : List ℕ
  pub framed : AreFrames max_body stream bodies rest
  pub decided : IsDecided max_body (place_after 0 (length stream - length rest)) rest fault
  pub hopeless : IsHopeless max_body rest
