-- The first bytes of an input, and its version.
use Rattle.lsp_log.proofs.Prelude.{◌≡◌, ℕ, ◌+◌, ◌-◌, ◌<◌, ◌≤◌, Bool, true, List, [], ◌++◌, length, take, drop, Option, refl, sym, ◌∙◌, ap, arith, append_assoc, append-nil, inl, inr, nat_eq, length-append, take-append-drop, length-take, take-take, take_at, take-append-le, cases_lt, starts_with, Consumes, Version, One, Two, IsVersion, version_line, IsLineFront, common_steps}
use Rattle.std.proofs.lemmas.Slice.{take-put_mid}
use Rattle.std.proofs.lemmas.Slice.Eq.{starts_is}
use Rattle.std.proofs.lemmas.Bool.Decides.{Decides-eqb}
use Rattle.std.proofs.Math.Seq.{take-append-add}
use borrow.Rule.Slice.PartMut.{put_mid}

-- bytes that begin with others
pub starts_front : (bytes front : List ℕ) (r : Bool) → r ≡ starts_with nat_eq bytes front → r ≡ true
    → bytes ≡ front ++ drop (length front) bytes
starts_front bytes front r is holds = (starts_is (λ a b. Decides-eqb a b) bytes front r is).0 holds

pub starts_known : (bytes front rest : List ℕ) (r : Bool) → r ≡ starts_with nat_eq bytes front → bytes ≡ front ++ rest
    → r ≡ true
starts_known bytes front rest r is e = (starts_is (λ a b. Decides-eqb a b) bytes front r is).1 rest e

-- Are these some first bytes of the line?
pub front_yes : (bytes : List ℕ) (r : Bool) → r ≡ starts_with nat_eq version_line bytes → r ≡ true
    → length bytes < length version_line → IsLineFront bytes
front_yes bytes r is holds short =
    let e : version_line ≡ bytes ++ drop (length bytes) version_line = starts_front version_line bytes r is holds in
    let front : take (length bytes) (bytes ++ drop (length bytes) version_line) ≡ bytes =
    take_at bytes (drop (length bytes) version_line) (length bytes) refl in
    (short, sym front ∙ ap (take (length bytes)) (sym e))

pub front_no : (bytes : List ℕ) (r : Bool) → r ≡ starts_with nat_eq version_line bytes → IsLineFront bytes → r ≡ true
front_no bytes r is front =
    starts_known version_line bytes (drop (length bytes) version_line) r is
    (sym (take-append-drop (length bytes) version_line) ∙ ap (λ z. z ++ drop (length bytes) version_line) (sym front.1))

-- the bytes of the next read
pub next_bytes : (len n : ℕ) (buf part : List ℕ) → len ≤ length buf → length part ≡ length buf - len → n ≤ length part
    → take (len + n) (put_mid len (length buf - len) buf part) ≡ take len buf ++ take n part
next_bytes len n buf part within long few =
    grind (arith, common_steps, take-put_mid, length-take, take-append-add, take-take)

pub next_len : (len n : ℕ) (buf part : List ℕ) → len ≤ length buf → length part ≡ length buf - len → n ≤ length part
    → length (take (len + n) (put_mid len (length buf - len) buf part)) ≡ len + n
next_len len n buf part within long few = grind (arith, common_steps, next_bytes, length-append, length-take)

pub next_read : (old mid new : Option (List ℕ)) (len n : ℕ) (buf part : List ℕ) → len ≤ length buf → length part
    ≡ length buf - len → n ≤ length part → Consumes old mid (take len buf) → Consumes mid new (take n part)
    → Consumes old new (take (len + n) (put_mid len (length buf - len) buf part))
next_read old mid new len n buf part within long few before now = grind (arith, common_steps, next_bytes)

-- A version that is known stays.
pub stays : (versions : Bool) (version : Version) (bytes more : List ℕ)
    → (versions ≡ true → IsLineFront bytes → more ≡ []) → IsVersion versions version bytes
    → IsVersion versions version (bytes ++ more)
stays versions One bytes more last one = λ looks rest e.
    elim (cases_lt (length bytes) 18) [
      | inl short ↦
          let front : take (length bytes) (bytes ++ more) ≡ bytes = take_at bytes more (length bytes) refl in
          let line : take (length bytes) (version_line ++ rest) ≡ take (length bytes) version_line =
          take-append-le (length bytes) version_line rest (omega (arith, short)) in
          let none : more ≡ [] = last looks (short, sym front ∙ ap (take (length bytes)) e ∙ line) in
          one looks rest (sym (append-nil bytes) ∙ ap (λ z. bytes ++ z) (sym none) ∙ e)
      | inr long ↦
          let some : take 18 (bytes ++ more) ≡ take 18 bytes = take-append-le 18 bytes more long in
          let line : take 18 (version_line ++ rest) ≡ version_line = take_at version_line rest 18 refl in
          let is : take 18 bytes ≡ version_line = sym some ∙ ap (take 18) e ∙ line in
          one looks (drop 18 bytes) (sym (take-append-drop 18 bytes) ∙ ap (λ z. z ++ drop 18 bytes) is)
    ]
stays versions Two bytes more last two = (
  two.0,
  (two.1.0 ++ more, ap (λ z. z ++ more) two.1.1 ∙ append_assoc version_line two.1.0 more),
)
