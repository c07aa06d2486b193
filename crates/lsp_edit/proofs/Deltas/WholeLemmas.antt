-- What a batch of one whole text leaves.
use Rattle.lsp_edit.proofs.Prelude.{ℕ, ◌≡◌, ◌<◌, ◌≤◌, List, length, map, ap, ◌∙◌, refl, None, Err, encode_utf8_all, IsOk, lt-ltb, le-ltb, encodes-chars, IsUtf8, chars, TooLong, New, ContentChange, meaning, bytes_left, one_change, text_within}
use Rattle.lsp_edit.proofs.Parts.CutLemmas.{text_of-new}

pub whole_left : (before new : List ℕ) → IsUtf8 new → bytes_left before (map New (chars new)) ≡ new
whole_left before new utf8 = ap encode_utf8_all (text_of-new (chars before) (chars new)) ∙ encodes-chars new utf8

module _ (max_len : ℕ) (new : List ℕ) (utf8 : IsUtf8 new) (batch : List ContentChange)
    (is : batch ≡ one_change None new) (units : ℕ → ℕ) (before : List ℕ) where
  pub batch_within : length new ≤ max_len → IsOk (text_within max_len before (meaning units (chars before) batch))
  batch_within fits = rw (is, whole_left before new utf8, le-ltb max_len (length new) fits) refl

  pub batch_too_long : max_len < length new
      → text_within max_len before (meaning units (chars before) batch) ≡ Err TooLong
  batch_too_long above = rw (is, whole_left before new utf8, lt-ltb max_len (length new) above) refl
