-- Digits alone are the whole number that they write.
use Rattle.lsp_message.proofs.Prelude.{◌≡◌, ℕ, ◌+◌, ◌*◌, ◌^◌, ◌<◌, List, [], ◌∷◌, ◌++◌, take, length, get_or, false, Some, sym, ap, ◌∙◌, arith, append-nil, lt-ltb, ne_eqb, AllDigits, digits_value, Parts, scan, IsWellFormed, unsigned, common_steps}
use Rattle.std.proofs.lemmas.Int.Digits.{digits_more, digits_value_more}
use Rattle.std.specs.Char.{digit_value}
use Rattle.fast_float.proofs.Writing.{scan-text_of}
use Rattle.serde_json.specs.Read.{number_of}

-- the digits as a numeral's whole part
abbrev only_whole : List ℕ → Parts
only_whole ds = record {
  whole = ds;
  point = false;
  fraction = [];
  exponent_negative = false;
  exponent = [];
  len = length (ds ++ []);
}

no_sign : (ds : List ℕ) → AllDigits 10 ds → 0 < length ds → get_or ds 0 0 ≡ 45 → ⊥
no_sign [] all some e = omega arith
no_sign (d ∷ ds) all some e = let digit : digit_value d < 10 = all.0 in let is : d ≡ 45 = e in grind arith

pub natural_of_digits : (ds : List ℕ) → AllDigits 10 ds → 0 < length ds → digits_value 10 ds < 2 ^ 64 → number_of ds
    ≡ Some (unsigned (digits_value 10 ds))
unfolding number_of
natural_of_digits ds all some small =
    let formed : IsWellFormed (only_whole ds) = grind (arith, common_steps) in
    let scanned : scan ds ≡ only_whole ds = ap scan (sym (append-nil ds)) ∙ scan-text_of (only_whole ds) formed in
    rw (ne_eqb (get_or ds 0 0) 45 (no_sign ds all some)) (grind (arith, common_steps, lt-ltb, append-nil))

-- one more digit
pub one_more_digit : (bytes : List ℕ) (i value byte digit : ℕ) → i < length bytes → AllDigits 10 (take i bytes)
    → value ≡ digits_value 10 (take i bytes)
    → byte ≡ get_or bytes i 0 → (digit_value byte < 10) × (digit ≡ digit_value byte)
    → AllDigits 10 (take (i + 1) bytes) × (value * 10 + digit ≡ digits_value 10 (take (i + 1) bytes))
one_more_digit bytes i value byte digit within all is at digit_is = grind (
  arith,
  common_steps,
  digits_more,
  digits_value_more,
)
