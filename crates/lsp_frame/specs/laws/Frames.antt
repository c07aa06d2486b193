-- Laws over frames, streams and faults, whatever the limit on bodies is.
use Rattle.std.specs.Prelude.{ℕ, ◌≡◌, ◌⊎◌, ◌+◌, ◌^◌, ◌≤◌, ◌<◌, List, [], ◌++◌, length, Option}
use Rattle.lsp_frame.specs.Frame.{frame, IsFrameOf, HasNoFrame, IsHopeless}
use Rattle.lsp_frame.specs.Faults.{IsDecidedAt}
use Rattle.lsp_frame.specs.Stream.{HasFrames, IsRead}
use Rattle.lsp_frame.specs.declared.fault.HeaderFault.{HeaderFault}
use Rattle.lsp_frame.specs.declared.fault.FrameFault.{FrameFault}

-- No frame is a proper prefix of another, and a frame has one body.
abbrev pub OneFrameLaw : Type 0
OneFrameLaw =
    (max_body : ℕ) (raw more body other : List ℕ) →
    IsFrameOf max_body raw body → IsFrameOf max_body (raw ++ more) other →
    (more ≡ []) × (body ≡ other)

-- Two frames have the same bytes and the same body, and the same bytes follow them.
pub record SameFrame (raw other body other_body x y : List ℕ) : Type 0 where
  pub same_bytes : raw ≡ other
  pub body_is : body ≡ other_body
  pub rest_is : x ≡ y

-- Bytes begin with at most one frame.
abbrev pub FrontLaw : Type 0
FrontLaw =
    (max_body : ℕ) (raw other body other_body x y : List ℕ) →
    IsFrameOf max_body raw body → IsFrameOf max_body other other_body →
    raw ++ x ≡ other ++ y → SameFrame raw other body other_body x y

-- A frame has at most 8,192 bytes more than the limit.
abbrev pub BoundLaw : Type 0
BoundLaw = (max_body : ℕ) (raw body : List ℕ) → IsFrameOf max_body raw body →
    length raw ≤ 8192 + max_body

-- A whole frame at the beginning of these bytes, its body, and what follows it.
pub record BeginsFrame (max_body : ℕ) (bytes : List ℕ) : Type 0 where
  pub frame : List ℕ
  pub body : List ℕ
  pub rest : List ℕ
  pub is_frame : IsFrameOf max_body frame body
  pub is : bytes ≡ frame ++ rest

-- The bytes begin with a whole frame, or they begin with none.
abbrev pub DecisionLaw : Type 0
DecisionLaw = (max_body : ℕ) (bytes : List ℕ) → BeginsFrame max_body bytes
    ⊎ HasNoFrame max_body bytes

-- All frames of a stream, and the rest after them.
pub record AllFrames (max_body : ℕ) (stream : List ℕ) : Type 0 where
  pub bodies : List (List ℕ)
  pub rest : List ℕ
  pub frames : HasFrames max_body stream bodies rest

-- Each stream has a list of frames.
abbrev pub AllFramesLaw : Type 0
AllFramesLaw = (max_body : ℕ) (stream : List ℕ) → AllFrames max_body stream

-- A stream has only one list of frames, and only one rest after them.
abbrev pub FramesLaw : Type 0
FramesLaw =
    (max_body : ℕ) (stream : List ℕ) (bodies others : List (List ℕ)) (rest other : List ℕ) →
    HasFrames max_body stream bodies rest → HasFrames max_body stream others other →
    (bodies ≡ others) × (rest ≡ other)

-- A stream has only one list of frames, and only one fault after them, or none.
abbrev pub ReadingLaw : Type 0
ReadingLaw =
    (max_body : ℕ) (stream : List ℕ) (bodies others : List (List ℕ))
    (fault other : Option FrameFault) →
    IsRead max_body stream bodies fault → IsRead max_body stream others other →
    (bodies ≡ others) × (fault ≡ other)

-- At most one fault is decided, at one byte.
abbrev pub FaultLaw : Type 0
FaultLaw =
    (max_body : ℕ) (bytes : List ℕ) (j k : ℕ) (fault other : HeaderFault) →
    IsDecidedAt max_body bytes j fault → IsDecidedAt max_body bytes k other →
    (j ≡ k) × (fault ≡ other)

-- More bytes don't change the decision.
abbrev pub StayingLaw : Type 0
StayingLaw =
    (max_body : ℕ) (bytes more : List ℕ) (k : ℕ) (fault : HeaderFault) →
    IsDecidedAt max_body bytes k fault → IsDecidedAt max_body (bytes ++ more) k fault

-- Where a fault is decided the bytes begin with no frame, whatever may follow.
abbrev pub HopelessLaw : Type 0
HopelessLaw =
    (max_body : ℕ) (bytes : List ℕ) (k : ℕ) (fault : HeaderFault) →
    IsDecidedAt max_body bytes k fault → IsHopeless max_body bytes

-- Each limit that allows the body lets a reader take its written frame.
abbrev pub WrittenLaw : Type 0
WrittenLaw = (max_body : ℕ) (body : List ℕ) → length body ≤ max_body → length body < 2 ^ 64 →
    IsFrameOf max_body (frame body) body

-- Two bodies with the same written frame are the same.
abbrev pub InjectiveLaw : Type 0
InjectiveLaw = (body other : List ℕ) → length body < 2 ^ 64 → length other < 2 ^ 64 →
    frame body ≡ frame other → body ≡ other
