-- Texts in UTF-8, by the test.
use Rattle.laspidru.proofs.Prelude.{◌≡◌, ℕ, true, false, List, inl, inr, IsUtf8}
use Rattle.std.proofs.lemmas.Bool.{cases_Bool}
use Rattle.std.proofs.lemmas.Str.{IsUtf8-from_is_utf8, is_utf8-from_IsUtf8}
use Rattle.std.specs.Str.{is_utf8}

pub utf8_is : (bytes : List ℕ) → is_utf8 bytes ≡ true → IsUtf8 bytes
utf8_is bytes passes = IsUtf8-from_is_utf8 bytes passes

pub utf8_yes : (bytes : List ℕ) → IsUtf8 bytes → is_utf8 bytes ≡ true
utf8_yes bytes utf8 = is_utf8-from_IsUtf8 bytes utf8

pub utf8_no : (bytes : List ℕ) → (¬ (IsUtf8 bytes)) → is_utf8 bytes ≡ false
utf8_no bytes other = elim (cases_Bool (is_utf8 bytes)) [
  | inl passes ↦ absurd (other (utf8_is bytes passes))
  | inr fails ↦ fails
]
