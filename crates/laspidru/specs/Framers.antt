-- A framer that C asks for, and what it takes of a stream (LSP 3.17, Base Protocol).
use Rattle.std.specs.Prelude.{◌≡◌, ◌≢◌, ◌≤◌, ◌<◌, ◌++◌, ◌⊎◌}
use Rattle.laspidru.specs.Prelude.{ℕ, Bool, true, false, List, length, take, Result, Ok, Err, LimitsData, default_limits, IsFrameOf, FramerData, IsFrame, HoldsOne, IsFeedFault, released, FrameFault, BAD_FRAME, FAILED, NO_MESSAGE, OK, OTHER_KIND, OUT_OF_MEMORY, Object, Framer, Taken, IsAnswer, Stream}
use Rattle.lsp_frame.specs.declared.fault.FrameFault.TheVariants as frame
use Rattle.laspidru.specs.Objects.{IsCopy, rest_asked}
use Rattle.laspidru.specs.Servers.{limits_asked}

-- ---- the framer of a handle

-- The limits of a framer, if the greatest length of a body is in its range. The others are ignored.
abbrev pub framer_limits : ℕ → Result LimitsData ℕ
framer_limits max_body = limits_asked max_body default_limits.max_text default_limits.max_docs
    default_limits.max_changes false

-- The framer of an object.
abbrev pub as_framer : Object → Result FramerData ℕ
as_framer (Framer framing) = Ok framing
as_framer other = Err OTHER_KIND

-- ---- what it takes

-- The body of the message that is buffered.
abbrev pub IsBodyOf : FramerData → List ℕ → Type 0
IsBodyOf framing body = (framing.failed ≡ false)
    × IsFrameOf framing.limits.max_body framing.buffered body

-- No whole message is buffered.
abbrev pub HasNoBody : FramerData → Type 0
HasNoBody framing = framing.failed ≡ false → (body : List ℕ) →
    IsFrameOf framing.limits.max_body framing.buffered body → ⊥

-- A whole message is buffered, whose body has so many bytes; or none is.
abbrev pub HasBody : FramerData → Bool → ℕ → Type 0
HasBody framing true len = (body : List ℕ) × IsBodyOf framing body × (len ≡ length body)
HasBody framing false len = (len ≡ 0) × HasNoBody framing

-- Bytes of a piece were taken: all of them, or those up to the end of one message.
pub record HasTaken (old new : FramerData) (piece : List ℕ) (out : Taken) : Type 0 where
  pub sound : old.failed ≡ false
  pub within : out.bytes ≤ length piece
  pub buffered : new ≡ record old { buffered = old.buffered ++ take out.bytes piece }
  pub stops : out.bytes < length piece → IsFrame new.limits.max_body new.buffered
  pub one : HoldsOne new.limits.max_body new.buffered
  pub body : HasBody new out.is_whole out.body_len
  pub none : (out.offset ≡ 0) × (out.frame ≡ 0)

-- The code of a fault of a stream.
abbrev pub frame_code : FrameFault → ℕ
frame_code frame.Failed = FAILED
frame_code frame.NoMemory = OUT_OF_MEMORY
frame_code fault = BAD_FRAME

-- What is written where no byte was taken.
abbrev pub nothing_taken : Taken
nothing_taken = record { bytes = 0; body_len = 0; offset = 0; frame = 0; is_whole = false }

-- The number of a fault, 1 to 9 for F1 to F9, and its byte offset in the stream: 0 of F8 and F9.
abbrev pub number_and_offset : FrameFault → ℕ × ℕ
number_and_offset (frame.BadHeader place) = (1, place)
number_and_offset (frame.HeaderTooLong place) = (2, place)
number_and_offset (frame.MissingLength place) = (3, place)
number_and_offset (frame.RepeatedHeader place) = (4, place)
number_and_offset (frame.BadLength place) = (5, place)
number_and_offset (frame.BodyTooLong place) = (6, place)
number_and_offset (frame.BadCharset place) = (7, place)
number_and_offset frame.Failed = (8, 0)
number_and_offset frame.NoMemory = (9, 0)

-- A fault is written, if it is one of F1 to F7: its number and its byte offset.
abbrev pub IsFrameReport : FrameFault → Taken → Type 0
IsFrameReport fault out = frame_code fault ≡ BAD_FRAME
    → out ≡ record nothing_taken { offset = (number_and_offset fault).1; frame = (number_and_offset fault).0 }

-- A piece was not taken, by this fault of the framer.
pub record IsNotTaken (old new : FramerData) (piece : List ℕ) (code : ℕ) (out : Taken) : Type
    0 where
  pub fault : FrameFault
  pub why : IsFeedFault old new piece fault
  pub is : code ≡ frame_code fault
  pub report : IsFrameReport fault out

-- A piece was fed to a framer: bytes were taken, or there is a fault.
abbrev pub IsPieceFed : FramerData → List ℕ → ℕ → FramerData → Taken → Type 0
IsPieceFed old piece code new out =
    ((code ≡ OK) × HasTaken old new piece out) ⊎ IsNotTaken old new piece code out

-- ---- the message that is buffered

-- The bytes of the body are copied from `start` on.
pub record IsBodyCopy (framing : FramerData) (start code : ℕ) (old new : List ℕ)
    (copied : ℕ) : Type 0 where
  pub body : List ℕ
  pub is : IsBodyOf framing body
  pub answer : IsAnswer (rest_asked start (Ok body)) code (IsCopy old new copied)

-- They are, or there is no whole message.
abbrev pub IsBodyAnswer : FramerData → ℕ → ℕ → List ℕ → List ℕ → ℕ → Type 0
IsBodyAnswer framing start code old new copied =
    ((code ≡ NO_MESSAGE) × HasNoBody framing) ⊎ IsBodyCopy framing start code old new copied

-- The message is released, if one is whole; else nothing changes.
pub record IsReleased (old new : FramerData) : Type 0 where
  pub whole : old.failed ≡ false → IsFrame old.limits.max_body old.buffered → new ≡ released old
  pub none : (old.failed ≡ false → IsFrame old.limits.max_body old.buffered → ⊥) → new ≡ old

-- ---- the stream of an end

-- The framer as the next piece finds it: a message that was handled is released.
abbrev pub IsNext : Bool → FramerData → FramerData → Type 0
IsNext true old new = IsReleased old new
IsNext false old new = new ≡ old

-- A piece was fed to a stream. With another code than OK no byte of it was taken, and only a fault
-- of F1 to F7 is written.
pub record IsFedTo (old : Stream) (piece : List ℕ) (code : ℕ) (new : Stream)
    (out : Taken) : Type 0 where
  pub at : FramerData
  pub next : IsNext old.is_handled old.framing at
  pub fed : IsPieceFed at piece code new.framing out
  pub unhandled : new.is_handled ≡ false
  pub none : code ≢ OK → code ≢ BAD_FRAME → out ≡ nothing_taken
