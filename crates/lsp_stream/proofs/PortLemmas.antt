-- What was written in several calls.
use Rattle.std.proofs.Common.{◌≡◌, ◌≤◌, ◌<◌, ◌⊎◌, inl, inr, ℕ, ◌+◌, ◌-◌, Bool, true, false, List, [], ◌++◌, length, take, drop, Option, refl, sym, ap, ◌∙◌, subst, arith, append-nil}
use Rattle.std.proofs.lemmas.List.{take-append-drop, take_rest, length-drop}
use Rattle.std.proofs.Math.Seq.{take-add}
use Rattle.std.proofs.KnownBytes.{Appends-trans, Appends-kept}
use Rattle.std.specs.Io.KnownBytes.{Appends, Keeps}
use Rattle.lsp_stream.specs.Turns.{AppendsFront, AppendsShort}

-- what stands written when a write fails, and when it takes nothing
pub kept : (old mid new : Option (List ℕ)) (bytes : List ℕ) (at : ℕ) → Appends old mid (take at bytes) → Keeps mid new
    → AppendsFront old new bytes
kept old mid new bytes at wrote keeps = (
  take at bytes,
  drop at bytes,
  sym (take-append-drop at bytes),
  Appends-kept old mid new (take at bytes) wrote keeps,
)

pub nothing_more : (old mid new : Option (List ℕ)) (bytes buf : List ℕ) (at n : ℕ) → Appends old mid (take at bytes)
    → Appends mid new (take n buf) → n ≡ 0 → AppendsFront old new bytes
nothing_more old mid new bytes buf at n wrote more none =
    let empty : take n buf ≡ [] = rw none refl in
    let all : Appends old new (take at bytes) =
    subst (λ xs. Appends old new xs) (ap (λ xs. take at bytes ++ xs) empty ∙ append-nil (take at bytes))
    (Appends-trans old mid new _ _ wrote more) in
    (take at bytes, drop at bytes, sym (take-append-drop at bytes), all)

-- the bytes up to a place, and the next ones
take_more : (bytes : List ℕ) (at n : ℕ) → take at bytes ++ take n (take (length bytes - at) (drop at bytes))
    ≡ take (at + n) bytes
take_more bytes at n = ap (λ xs. take at bytes ++ take n xs) (take_rest bytes at) ∙ sym (take-add at n bytes)

pub more_written : (old mid new : Option (List ℕ)) (bytes : List ℕ) (at n : ℕ) → Appends old mid (take at bytes)
    → Appends mid new (take n (take (length bytes - at) (drop at bytes))) → Appends old new (take (at + n) bytes)
more_written old mid new bytes at n wrote more =
    subst (λ xs. Appends old new xs) (take_more bytes at n) (Appends-trans old mid new _ _ wrote more)

-- not all of the bytes were written
pub not_all : (old new : Option (List ℕ)) (bytes : List ℕ) (at : ℕ) → Appends old new (take at bytes)
    → at < length bytes → AppendsShort false old new bytes
not_all old new bytes at wrote within = (
  take at bytes,
  drop at bytes,
  sym (take-append-drop at bytes),
  wrote,
  inl (omega (arith, within, length-drop at bytes)),
)

pub short_of : (unflushed : Bool) (old new : Option (List ℕ)) (bytes : List ℕ) → AppendsShort false old new bytes
    → AppendsShort unflushed old new bytes
short_of unflushed old new bytes short = (
  short.0,
  short.1,
  short.2,
  short.3,
  elim short.4 [ inl some ↦ inl some | inr never ↦ absurd (let wrong : false ≡ true = never in cc) ],
)
