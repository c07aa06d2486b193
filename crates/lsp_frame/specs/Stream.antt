-- What a framer has buffered, and the frames of a whole stream.
use Rattle.std.specs.Prelude.{ℕ, ◌≡◌, ◌≤◌, ◌<◌, ◌⊎◌, Bool, List, [], ◌∷◌, ◌++◌, length, ◌-◌, Option, MatchOption}
use Rattle.lsp_frame.specs.Limits.{LimitsData}
use Rattle.lsp_frame.specs.Header.{Line, AreLines, header_of, BeginsHeader}
use Rattle.lsp_frame.specs.Verdict.{judge_header}
use Rattle.lsp_frame.specs.Frame.{IsFrameOf, HasNoFrame}
use Rattle.std.specs.Prelude.{Ok, true, false}
use Rattle.lsp_frame.specs.Frame.{IsHopeless}
use Rattle.lsp_frame.specs.Faults.{IsDecidedAt, IsDecided, place_after}
use Rattle.lsp_frame.specs.declared.framer.stage.Stage.{Stage}
use Rattle.lsp_frame.specs.declared.framer.stage.Stage.TheVariants as stage
use Rattle.lsp_frame.specs.declared.fault.HeaderFault.{HeaderFault}
use Rattle.lsp_frame.specs.declared.fault.FrameFault.{FrameFault}
use Rattle.lsp_frame.specs.declared.fault.FrameFault.TheVariants.{Failed, NoMemory}

-- What contracts see of a framer: how many bytes were released or skipped, the buffered bytes,
-- whether a fault was found, and the limits.
pub record FramerData : Type 0 where
  pub place : ℕ
  pub buffered : List ℕ
  pub failed : Bool
  pub limits : LimitsData

-- A fault was found.
abbrev pub has_failed : Stage → Bool
has_failed stage.Failed = true
has_failed other = false

-- The bytes are a whole frame.
pub record IsFrame (max_body : ℕ) (bytes : List ℕ) : Type 0 where
  pub body : List ℕ
  pub is_frame_of : IsFrameOf max_body bytes body

-- The bytes are a good header, and no more after it than the body that it announces.
pub record IsBodyPart (max_body : ℕ) (bytes : List ℕ) : Type 0 where
  pub lines : List Line
  pub body : List ℕ
  pub wanted : ℕ
  pub each : AreLines lines
  pub is : bytes ≡ header_of lines ++ body
  pub short : length (header_of lines) ≤ 8192
  pub good : judge_header max_body lines ≡ Ok wanted
  pub within : length body ≤ wanted

-- The bytes begin a header, and no fault was decided in them.
pub record IsHeaderPart (bytes : List ℕ) : Type 0 where
  pub begins : BeginsHeader bytes
  pub short : length bytes < 8192

-- No fault was decided in the bytes, and they are no more than one frame.
abbrev pub IsPart : ℕ → List ℕ → Type 0
IsPart max_body bytes = IsHeaderPart bytes ⊎ IsBodyPart max_body bytes

-- The bytes don't begin with a frame that more bytes follow.
abbrev pub HoldsOne : ℕ → List ℕ → Type 0
HoldsOne max_body bytes = (raw body more : List ℕ) → IsFrameOf max_body raw body →
    bytes ≡ raw ++ more → more ≡ []

-- A fault was decided on the buffered bytes and those of the piece. No frame can come any more, and
-- the framer has failed. All else is unchanged.
pub record IsStreamFault (old new : FramerData) (piece : List ℕ) (fault : FrameFault) : Type 0 where
  pub sound : old.failed ≡ false
  pub decided : IsDecided old.limits.max_body old.place (old.buffered ++ piece) fault
  pub hopeless : IsHopeless old.limits.max_body (old.buffered ++ piece)
  pub after : new ≡ record old { failed = true }

-- Why a piece was not taken. Only the faults F1 to F7 change the framer.
abbrev pub IsFeedFault : FramerData → FramerData → List ℕ → FrameFault → Type 0
IsFeedFault old new piece Failed = (old.failed ≡ true) × (new ≡ old)
IsFeedFault old new piece NoMemory = (old.failed ≡ false) × (new ≡ old)
IsFeedFault old new piece fault = IsStreamFault old new piece fault

-- The framer after its buffered frame was released.
abbrev pub released : FramerData → FramerData
released f = record f { place = place_after f.place (length f.buffered); buffered = [] }

-- The bytes are frames of these bodies, one after another, and then the rest.
abbrev pub AreFrames : ℕ → List ℕ → List (List ℕ) → List ℕ → Type 0
AreFrames max_body stream [] rest = stream ≡ rest
AreFrames max_body stream (body ∷ bodies) rest =
    (raw : List ℕ) × (rest_after : List ℕ) × IsFrameOf max_body raw body
    × (stream ≡ raw ++ rest_after) × AreFrames max_body rest_after bodies rest

-- The frames of the stream have these bodies, and the rest begins with no frame.
pub record HasFrames (max_body : ℕ) (stream : List ℕ) (bodies : List (List ℕ))
    (rest : List ℕ) : Type 0 where
  pub framed : AreFrames max_body stream bodies rest
  pub longest : HasNoFrame max_body rest

-- No fault was decided in the bytes.
abbrev pub IsSound : ℕ → List ℕ → Type 0
IsSound max_body bytes = (k : ℕ) (fault : HeaderFault) → IsDecidedAt max_body bytes k fault → ⊥

-- How a stream is read: its frames have these bodies, and a fault was decided after them, or none.
pub record IsRead (max_body : ℕ) (stream : List ℕ) (bodies : List (List ℕ))
    (fault : Option FrameFault) : Type 0 where
  pub rest : List ℕ
  pub frames : HasFrames max_body stream bodies rest
  pub end : MatchOption fault (IsSound max_body rest)
      (IsDecided max_body (place_after 0 (length stream - length rest)) rest)
