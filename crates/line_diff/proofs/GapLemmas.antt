-- The next lines of two texts that agree, as loops find them.
use Rattle.line_diff.proofs.Prelude.{◌≡◌, ℕ, ◌+◌, ◌-◌, ◌<◌, List, Option, Some, None, true, suc, length, slice_get, refl, add-one, arith, are_equal, best_from, better, first_found, gap_of, common_steps}
use Rattle.std.proofs.lemmas.Option.{slice_get_within}
use Rattle.line_diff.specs.declared.hunks.Gap.{Gap}

pub found_later : (found : ℕ → Option Gap) (n i : ℕ) → i < n → found i ≡ None
    → first_found found (n - i) i ≡ first_found found (n - (i + 1)) (i + 1)
found_later found n i within missed =
    let more : n - i ≡ suc (n - (i + 1)) = omega arith in rw (more, missed, add-one) refl

there : (line other : Option (List ℕ)) (lines others : List (List ℕ)) (k : ℕ) → slice_get lines k ≡ line
    → slice_get others k ≡ other → are_equal line other ≡ true → (k < length lines) × (k < length others)
there (Some line) (Some other) lines others k is other_is equal =
    (slice_get_within lines k line is, slice_get_within others k other other_is)
there (Some line) None lines others k is other_is equal = grind (arith, common_steps, equal)
there None other lines others k is other_is equal = grind (arith, common_steps, equal)

-- Lines that are equal are there.
pub both_there : (lines others : List (List ℕ)) (k : ℕ)
    → are_equal (slice_get lines k) (slice_get others k) ≡ true → (k < length lines) × (k < length others)
both_there lines others k equal =
    there (slice_get lines k) (slice_get others k) lines others k refl refl equal

module _ (lines others : List (List ℕ)) (most : ℕ) where
  pub best_passed : (n fewer : ℕ) (best one next two last : Gap) → fewer < n
      → one ≡ gap_of lines others fewer most → next ≡ better best one
      → two ≡ gap_of lines others most fewer → last ≡ better next two
      → best_from lines others most (n - fewer) fewer best
      ≡ best_from lines others most (n - (fewer + 1)) (fewer + 1) last
  best_passed n fewer best one next two last within one_is next_is two_is last_is =
      let more : n - fewer ≡ suc (n - (fewer + 1)) = omega arith in
      rw (last_is, next_is, one_is, two_is, more, add-one) refl
