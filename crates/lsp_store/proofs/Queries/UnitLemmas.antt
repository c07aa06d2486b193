-- How many units a text has.
use Rattle.lsp_store.proofs.Prelude.{ℕ, ◌≡◌, ◌+◌, ◌-◌, ◌≤◌, List, [], ◌∷◌, ◌++◌, length, take, sum_by, IsUtf8, encode_utf8, refl, ap, ◌∙◌, arith, chars, take_all, sum_by-cons, chars-nil, chars_past_char, encodes-chars, Encoding, units_in, units_between}
use Rattle.lsp_text.proofs.Counting.TotalLemmas.{units_total}

pub units_from_start : (units : ℕ → ℕ) (text : List ℕ) (k : ℕ) → units_between units text 0 k
    ≡ sum_by units (take k text)
units_from_start units text k = let all : k - 0 ≡ k = omega arith in rw all refl

-- No text has more units than bytes.
pub units_few : (encoding : Encoding) (bytes : List ℕ) → IsUtf8 bytes → sum_by (units_in encoding) (chars bytes)
    ≤ length bytes
units_few encoding bytes utf8 =
    let cs = chars bytes in
    omega (
      arith,
      units_total encoding cs 0 (length cs),
      units_from_start (units_in encoding) cs (length cs),
      ap (sum_by (units_in encoding)) (take_all (length cs) cs (omega arith)),
      ap length (encodes-chars bytes utf8),
    )

-- The units of a text are those of its first character, and those of the rest.
pub units_next : (units : ℕ → ℕ) (bytes rest : List ℕ) (c : ℕ) → IsUtf8 bytes → bytes ≡ encode_utf8 c ++ rest
    → sum_by units (chars bytes) ≡ units c + sum_by units (chars rest)
units_next units bytes rest c utf8 is = ap (sum_by units) (chars_past_char bytes rest c utf8 is)
    ∙ sum_by-cons units c (chars rest)

-- No bytes, no characters.
pub chars_none : (bytes : List ℕ) → length bytes ≡ 0 → chars bytes ≡ []
chars_none [] none = chars-nil
chars_none (b ∷ bytes) none = absurd (omega (arith, none))
