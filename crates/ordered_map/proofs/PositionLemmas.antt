-- The first item that passes a test.
use Rattle.ordered_map.proofs.Prelude.{◌≡◌, ◌<◌, ℕ, Bool, true, false, List, length, slice_index_or as get_or, position, Some, None, refl, arith, cases_lt, lt-ltb, le-ltb, get_or_past, none-some, common_steps}
use Rattle.std.proofs.lemmas.List.Sums.{fails_before_first, position_or_len_is}

module _ {X : Type 0} (test : X → Bool) (items : List X) where
  pub position_is : (first : ℕ) (default : X) → first < length items
      → ((other : ℕ) → other < first → test (get_or items other default) ≡ false)
      → test (get_or items first default) ≡ true → position test items ≡ Some first
  position_is first default within fails passes = grind (arith, common_steps, position_or_len_is, lt-ltb)

  pub position_none : (default : X) → ((other : ℕ) → test (get_or items other default) ≡ false)
      → position test items ≡ None
  position_none default fails =
      let at = position_or_len_is test items (length items) default (omega arith) (λ other less. fails other)
      (λ less. absurd (omega (arith, less))) in
      rw (at, le-ltb (length items) (length items) (omega arith)) refl

  pub none_within : (default : X) → position test items ≡ None → (other : ℕ) → other < length items
      → test (get_or items other default) ≡ false
  none_within default none other within = grind (arith, common_steps, lt-ltb, none-some, fails_before_first, cases_lt)

  pub none_passes : (default : X) → test default ≡ false → position test items ≡ None → (other : ℕ)
      → test (get_or items other default) ≡ false
  none_passes default fails none other = grind (arith, common_steps, none_within, get_or_past, cases_lt)
