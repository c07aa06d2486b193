-- The index of a place, and the bytes of a list of items.
use Rattle.lsp_edit.proofs.Prelude.{ℕ, zero, suc, ◌≡◌, ◌+◌, ◌-◌, ◌<◌, ◌≤◌, List, [], ◌∷◌, length, refl, sym, ap, ◌∙◌, arith, ne_eqb, encode_utf8, encode_utf8_all, IsCharBoundary, ⊎_elim, cases_eq, cases_lt, length-append, length-encode, len_utf8_bounds, chars, IsUtf8, place_of, place_rises, IsIndexAt, index_at, index_of, common_steps, IsPartOf, Old, OldPart, items_in, map, numbers_from}
use Rattle.std.specs.Char.{len_utf8}

pub length-bytes : (c : ℕ) (text : List ℕ) → length (encode_utf8_all (c ∷ text))
    ≡ len_utf8 c + length (encode_utf8_all text)
length-bytes c text = length-append (encode_utf8 c) (encode_utf8_all text)
    ∙ ap (λ (n : ℕ). n + length (encode_utf8_all text)) (length-encode c)

pub index_first : (text : List ℕ) → index_of text 0 ≡ 0
index_first [] = refl
index_first (c ∷ text) = refl

-- The index of an index's place is that index.
pub index_of-place : (text : List ℕ) (k : ℕ) → k ≤ length text → index_of text (place_of text k) ≡ k
index_of-place [] zero within = refl
index_of-place [] (suc k) within = absurd (omega arith)
index_of-place (c ∷ text) zero within = refl
index_of-place (c ∷ text) (suc k) within =
    grind (arith, common_steps, length-bytes, len_utf8_bounds, ne_eqb, (index_of-place text k (omega arith)))

pub index_place : (bytes : List ℕ) → IsUtf8 bytes → (place : ℕ) → IsCharBoundary bytes place
    → (place_of (chars bytes) (index_of (chars bytes) place) ≡ place)
    × (index_of (chars bytes) place ≤ length (chars bytes))
index_place bytes utf8 place at =
    let a : IsIndexAt bytes place = index_at bytes place utf8 at in
    let e = ap (index_of (chars bytes)) (sym a.place_is) ∙ index_of-place (chars bytes) a.index a.within in
    (ap (place_of (chars bytes)) e ∙ a.place_is, omega (arith, e, a.within))

-- A later place has no lower index.
pub index_rises : (text : List ℕ) (low high : ℕ) → low ≤ high → index_of text low ≤ index_of text high
index_rises [] low high order = omega arith
index_rises (c ∷ text) low high order =
    grind (
      arith,
      common_steps,
      ne_eqb,
      cases_eq,
      (index_rises text (low - len_utf8 c) (high - len_utf8 c) (omega arith)),
    )

-- The indexes of two places are in the places' order.
pub indexes_less : (bytes : List ℕ) → IsUtf8 bytes → (low high : ℕ) → IsCharBoundary bytes low
    → IsCharBoundary bytes high → low < high → index_of (chars bytes) low < index_of (chars bytes) high
indexes_less bytes utf8 low high at_low at_high less =
    let a = index_place bytes utf8 low at_low in
    let b = index_place bytes utf8 high at_high in
    ⊎_elim
    (λ (l : index_of (chars bytes) low < index_of (chars bytes) high). l)
    (λ (l : index_of (chars bytes) high ≤ index_of (chars bytes) low).
    absurd (omega (
      arith,
      place_rises (chars bytes) (index_of (chars bytes) high) (index_of (chars bytes) low) l a.1,
      a.0,
      b.0,
    )))
    (cases_lt (index_of (chars bytes) low) (index_of (chars bytes) high))

-- A part of the old text, by the index of its first character and how many follow it.
pub record IsOldRow (old : List ℕ) (from to : ℕ) : Type 0 where
  pub count : ℕ
  pub items : items_in (chars old) (OldPart from to) ≡ Old (index_of (chars old) from)
      ∷ map Old (numbers_from (suc (index_of (chars old) from)) count)
  pub last : suc (index_of (chars old) from) + count ≡ index_of (chars old) to

pub old_row : (old : List ℕ) → IsUtf8 old → (from to : ℕ) → IsPartOf old (OldPart from to) → IsOldRow old from to
old_row old utf8 from to is =
    let less = indexes_less old utf8 from to is.1 is.2 is.0 in
    let e : index_of (chars old) to - index_of (chars old) from
    ≡ suc ((index_of (chars old) to - index_of (chars old) from) - 1) = omega arith in
    record {
      count = (index_of (chars old) to - index_of (chars old) from) - 1;
      items = ap (λ (n : ℕ). map Old (numbers_from (index_of (chars old) from) n)) e;
      last = omega arith;
    }
