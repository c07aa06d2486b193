-- The numbers of a text's places and bytes, cut in two, and read one after the other.
use Rattle.line_diff.proofs.Prelude.{◌≡◌, ℕ, suc, zero, ◌+◌, ◌-◌, ◌<◌, List, [], ◌∷◌, ◌++◌, Some, None, length, drop, take, refl, sym, ap, ◌∙◌, arith, drop-drop, slice_get, seconds}
use Rattle.std.proofs.lemmas.List.{drop_at, drop_min, get_or-drop, length-append, length-reverse, reverse-append, take_at, take_min}
use Rattle.std.proofs.lemmas.Option.{unwrap_or-slice_get}
use Rattle.std.specs.Option.{option_to_list}
use Rattle.std.specs.Prelude.{min, replicate, reverse, ◌*◌}
use Rattle.line_diff.specs.Makers.{number_at}
use Rattle.line_diff.proofs.RepeatLemmas.{reverse-replicate}

-- ---- a part is replaced

pub cut_is : (a b w : List ℕ) (n : ℕ) → a ++ b ≡ w → length a ≡ min n (length w)
    → (take n w ≡ a) × (drop n w ≡ b)
cut_is a b w n whole len = (
  sym (take_min n w) ∙ (ap (λ (ns : List ℕ). take (min n (length w)) ns) (sym whole)
      ∙ take_at a b (min n (length w)) len),
  sym (drop_min n w) ∙ (ap (λ (ns : List ℕ). drop (min n (length w)) ns) (sym whole)
      ∙ drop_at a b (min n (length w)) len),
)

module _ (b0 a0 b1 a1 b2 a2 : List ℕ) (start : ℕ) where
  pub spliced_is : (number added removed : ℕ) → reverse b1 ++ a1 ≡ reverse b0 ++ a0
      → length b1 ≡ min start (length b0 + length a0) → b2 ≡ replicate added number ++ b1 → a2 ≡ drop removed a1
      → reverse b2 ++ a2 ≡ take start (reverse b0 ++ a0) ++ replicate added number
      ++ drop removed (drop start (reverse b0 ++ a0))
  spliced_is number added removed whole len b2_is a2_is =
      let here : length (reverse b1) ≡ min start (length (reverse b0 ++ a0)) =
      rw (length-reverse b1, length-append (reverse b0) a0, length-reverse b0) len in
      let parts = cut_is (reverse b1) a1 (reverse b0 ++ a0) start whole here in
      rw (
        b2_is,
        a2_is,
        reverse-append (replicate added number) b1,
        reverse-replicate added number,
        parts.0,
        parts.1,
      ) refl

-- ---- read one after the other

pub twice_after : (n : ℕ) (xs : List ℕ) → drop n (drop n xs) ≡ drop (2 * n) xs
twice_after n xs =
    let all : n + n ≡ 2 * n = omega arith in
    drop-drop n n xs ∙ ap (λ (k : ℕ). drop k xs) all

pub number_after : (n i : ℕ) (xs : List ℕ) → number_at (drop n xs) i ≡ number_at xs (n + i)
number_after n i xs =
    unwrap_or-slice_get (drop n xs) i 0 ∙ (get_or-drop n xs i 0 ∙ sym (unwrap_or-slice_get xs (n + i) 0))

pub first_taken : (xs : List ℕ) → option_to_list (slice_get xs 0) ≡ take 1 xs
first_taken [] = refl
first_taken (x ∷ xs) = refl

pub seconds_more : (n i x : ℕ) (xs : List ℕ) → i < n → Some x ≡ slice_get xs 0
    → seconds (n - i) xs ≡ x ∷ seconds (n - (i + 1)) (drop 2 xs)
seconds_more n i x [] within first = absurd (cc first)
seconds_more n i x (y ∷ ys) within first =
    let more : n - i ≡ suc (n - (i + 1)) = omega arith in
    let same : y ≡ x = cc in
    rw (more, same) refl

pub seconds_none : (n : ℕ) (xs : List ℕ) → None ≡ slice_get xs 0 → seconds n xs ≡ []
seconds_none zero xs none = refl
seconds_none (suc n) [] none = refl
seconds_none (suc n) (x ∷ xs) none = cc
