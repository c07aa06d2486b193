-- What is read of an option.
use Rattle.std.proofs.Common.{◌≡◌, ◌<◌, ◌^◌, ℕ, List, refl, false, true, Option, Some, None, Result, Ok, Err}
use Rattle.std.specs.Prelude.{IfSome, IsSome}
use Rattle.std.specs.Str.Parse.{IsNumeral, digits_value, without_leading_plus}
use Rattle.clap.specs.Matches.{ReadsOne, found_of, one_text}
use Rattle.clap.specs.declared.parser.matches.ArgMatches.{ArgMatches}
use Rattle.lsp_program.specs.Found.{HasNumber}

-- The text is a numeral of 64 bits.
abbrev pub IsSmall : List ℕ → Type 0
IsSmall text = IsNumeral 10 (without_leading_plus text) × (digits_value 10 (without_leading_plus text) < 2 ^ 64)

module _ {E : Type 0} (gives : List ℕ → Result ℕ E → Type 0) (options : ArgMatches) (id : List ℕ) where
  read_number : (text : Option (List ℕ)) → one_text (found_of options) id ≡ text → (read : Option ℕ)
      → (text ≡ None → read ≡ None) → ((t : List ℕ) → text ≡ Some t → ReadsOne gives t read)
      → ((t : List ℕ) (n : ℕ) → gives t (Ok n) → IsSmall t × (n ≡ digits_value 10 (without_leading_plus t)))
      → IfSome read (HasNumber options id)
  read_number text is None none some reads = tt
  read_number None is (Some n) none some reads = let bad : Some n ≡ None = none refl in cc
  read_number (Some t) is (Some n) none some reads =
      let given = reads t n (some t refl) in
      record { text = t; found = is; numeral = given.0.0; value = given.1; small = given.0.1 }

  pub number_given : (read : Option ℕ) → (one_text (found_of options) id ≡ None → read ≡ None)
      → ((t : List ℕ) → one_text (found_of options) id ≡ Some t → ReadsOne gives t read)
      → ((t : List ℕ) (n : ℕ) → gives t (Ok n) → IsSmall t × (n ≡ digits_value 10 (without_leading_plus t)))
      → IfSome read (HasNumber options id)
  number_given read none some reads = read_number (one_text (found_of options) id) refl read none some reads

  -- A number that an option has is read.
  pub number_read : (read : Option ℕ) → ((t : List ℕ) → one_text (found_of options) id ≡ Some t → ReadsOne gives t read)
      → ((t : List ℕ) (e : E) → gives t (Err e) → IsSmall t → ⊥) → (n : ℕ) → HasNumber options id n → IsSome read
  number_read (Some n) some fails m has = refl
  number_read None some fails m has =
      let failed = some has.text has.found in
      absurd (fails has.text failed.0 failed.1 (has.numeral, has.small))

-- What has none gives none.
pub no_some : {A B : Type 0} (r : Option A) (s : Option B) → r ≡ None → IsSome r → IsSome s
no_some (Some x) s is some = let bad : Some x ≡ None = is in cc
no_some None s is some = let bad : false ≡ true = some in cc
