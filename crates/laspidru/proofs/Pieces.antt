-- What is taken of a piece of a stream.
use Rattle.laspidru.proofs.Prelude.{◌≡◌, ◌≢◌, ℕ, Bool, List, false, true, subst, sym, BAD_FRAME, OK, Taken, IsFedTo, IsNext, IsPieceFed, IsReleased, nothing_taken, Stream}
use Rattle.lsp_frame.specs.Stream.{FramerData}

-- A message that was handled is released.
pub released_next : (is_handled : Bool) (old new : FramerData) → is_handled ≡ true → IsReleased old new
    → IsNext is_handled old new
released_next is_handled old new is done = subst (λ b. IsNext b old new) (sym is) done

-- One that wasn't stays.
pub kept_next : (is_handled : Bool) (old new : FramerData) → is_handled ≡ false → new ≡ old → IsNext is_handled old new
kept_next is_handled old new is same = subst (λ b. IsNext b old new) (sym is) same

-- A piece was fed after the message that was handled.
pub fed_to : (old new : Stream) (at : FramerData) (piece : List ℕ) (code : ℕ) (out : Taken)
    → IsNext old.is_handled old.framing at → IsPieceFed at piece code new.framing out → new.is_handled ≡ false
    → (code ≢ OK → code ≢ BAD_FRAME → (new.framing ≡ at) × (out ≡ nothing_taken)) → IsFedTo old piece code new out
fed_to old new at piece code out next fed unhandled kept = record {
  at = at;
  next = next;
  fed = fed;
  unhandled = unhandled;
  none = λ bad other. (kept bad other).1;
}
