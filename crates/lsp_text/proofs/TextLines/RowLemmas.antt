-- Rows of numbers: the first number of a row that passes a test, the last, and the only one.
use Rattle.lsp_text.proofs.Prelude.{ℕ, zero, suc, ◌≡◌, ◌+◌, ◌<◌, ◌≤◌, ◌⊎◌, ◌∷◌, Bool, true, false, Some, None, filter, find, ⊎_elim, inl, inr, refl, arith, cases_Bool, cases_eq, cases_lt, numbers_from, first_or, last_or, common_steps}

-- `found` is the least number of the row that passes
pub record IsFirst (test : ℕ → Bool) (low count found : ℕ) : Type 0 where
  pub from_low : low ≤ found
  pub in_row : found < low + count
  pub passes : test found ≡ true
  pub least : (k : ℕ) → low ≤ k → test k ≡ true → found ≤ k

-- `found` is the greatest number of the row that passes
pub record IsLast (test : ℕ → Bool) (low count found : ℕ) : Type 0 where
  pub from_low : low ≤ found
  pub in_row : found < low + count
  pub passes : test found ≡ true
  pub greatest : (k : ℕ) → k < low + count → test k ≡ true → k ≤ found

differs : (test : ℕ → Bool) (low k : ℕ) → test low ≡ false → test k ≡ true → low ≤ k → suc low ≤ k
differs test low k fails passes order =
    ⊎_elim (λ (e : low ≡ k). absurd (cc)) (λ (e : low ≡ k → ⊥). omega arith) (cases_eq low k)

pub first_passes : (test : ℕ → Bool) (default low count k : ℕ) → low ≤ k → k < low + count → test k ≡ true
    → IsFirst test low count (first_or default (filter test (numbers_from low count)))
first_passes test default low zero k order within passes = absurd (omega arith)
first_passes test default low (suc count) k order within passes =
    ⊎_elim
    (λ (e : test low ≡ true). rw e (grind (arith, common_steps)))
    (λ (e : test low ≡ false).
    rw e (later e (first_passes test default (suc low) count k (differs test low k e passes order) (omega arith)
    passes)))
    (cases_Bool (test low))
  where
    later : {found : ℕ} → test low ≡ false → IsFirst test (suc low) count found → IsFirst test low (suc count) found
    later e f = record {
      from_low = omega (arith, f.from_low);
      in_row = omega (arith, f.in_row);
      passes = f.passes;
      least = λ j o p. f.least j (differs test low j e p o) p;
    }

-- The last of a filtered row is the default, where nothing passes, or the greatest that passes.
LastOr : (ℕ → Bool) → ℕ → ℕ → ℕ → ℕ → Type 0
LastOr test default low count found =
    ((found ≡ default) × ((k : ℕ) → low ≤ k → k < low + count → test k ≡ true → ⊥)) ⊎ IsLast test low count found

last_or_default : (test : ℕ → Bool) (default low count : ℕ)
    → LastOr test default low count (last_or default (filter test (numbers_from low count)))
unfolding LastOr
last_or_default test default low zero = inl (refl, λ k order within passes. omega arith)
last_or_default test default low (suc count) =
    grind (
      arith,
      common_steps,
      inr,
      cases_Bool,
      cases_lt,
      inl,
      differs,
      (last_or_default test low (suc low) count),
      (last_or_default test default (suc low) count),
    )

pub last_passes : (test : ℕ → Bool) (default low count k : ℕ) → low ≤ k → k < low + count → test k ≡ true
    → IsLast test low count (last_or default (filter test (numbers_from low count)))
unfolding LastOr
last_passes test default low count k order within passes = grind (arith, common_steps, last_or_default)

-- A row's numbers that pass one test, searched by another: the only number that passes both is found.
pub find_only : (test wanted : ℕ → Bool) (low count k : ℕ) → low ≤ k → k < low + count → test k ≡ true → wanted k ≡ true
    → ((j : ℕ) → j < low + count → test j ≡ true → wanted j ≡ true → j ≡ k)
    → find wanted (filter test (numbers_from low count)) ≡ Some k
find_only test wanted low zero k order within passes is_wanted only = absurd (omega arith)
find_only test wanted low (suc count) k order within passes is_wanted only =
    ⊎_elim
    (λ (e : low ≡ k). rw (e, passes, is_wanted) refl)
    (λ (e : low ≡ k → ⊥). passed_over e (find_only test wanted (suc low) count k (omega arith) (omega arith) passes
    is_wanted (λ j w. only j (omega arith))))
    (cases_eq low k)
  where
    passed_over : (low ≡ k → ⊥) → find wanted (filter test (numbers_from (suc low) count)) ≡ Some k
        → find wanted (filter test (numbers_from low (suc count))) ≡ Some k
    passed_over e rest = grind (arith, common_steps, cases_Bool)

-- What is found is a number of the row that passes both tests.
pub record IsFound (test wanted : ℕ → Bool) (low count found : ℕ) : Type 0 where
  pub from_low : low ≤ found
  pub in_row : found < low + count
  pub passes : test found ≡ true
  pub is_wanted : wanted found ≡ true

pub find_found : (test wanted : ℕ → Bool) (low count found : ℕ) → find wanted (filter test (numbers_from low count))
    ≡ Some found → IsFound test wanted low count found
find_found test wanted low zero found f = absurd (cc)
find_found test wanted low (suc count) found f =
    ⊎_elim
    (λ (p : test low ≡ true). at_low p (rw p at f)
    (λ (g : find wanted (filter test (numbers_from (suc low) count)) ≡ Some found). later
    (find_found test wanted (suc low) count found g)))
    (λ (p : test low ≡ false). later (find_found test wanted (suc low) count found (rw p at f)))
    (cases_Bool (test low))
  where
    later : IsFound test wanted (suc low) count found → IsFound test wanted low (suc count) found
    later r = record {
      from_low = omega (arith, r.from_low);
      in_row = omega (arith, r.in_row);
      passes = r.passes;
      is_wanted = r.is_wanted;
    }

    here : test low ≡ true → wanted low ≡ true → low ≡ found → IsFound test wanted low (suc count) found
    here p w e = record { from_low = omega arith; in_row = omega arith; passes = rw (← e) p; is_wanted = rw (← e) w }

    at_low : test low ≡ true → find wanted (low ∷ filter test (numbers_from (suc low) count)) ≡ Some found
        → (find wanted (filter test (numbers_from (suc low) count)) ≡ Some found → IsFound test wanted low (suc count)
        found) → IsFound test wanted low (suc count) found
    at_low p g more = grind (arith, common_steps, here, cases_Bool)

-- Nothing is found where no number of the row passes both tests.
pub find_none : (test wanted : ℕ → Bool) (low count : ℕ) → ((k : ℕ) → low ≤ k → k < low + count → test k ≡ true
    → wanted k ≡ true → ⊥) → find wanted (filter test (numbers_from low count)) ≡ None
find_none test wanted low zero none = refl
find_none test wanted low (suc count) none =
    ⊎_elim
    (λ (p : test low ≡ true).
    ⊎_elim
    (λ (w : wanted low ≡ true). absurd (none low (omega arith) (omega arith) p w))
    (λ (w : wanted low ≡ false). rw (
      p,
      w,
    ) (find_none test wanted (suc low) count (λ k order within. none k (omega arith) (omega arith))))
    (cases_Bool (wanted low)))
    (λ (p : test low ≡ false). rw p
    (find_none test wanted (suc low) count (λ k order within. none k (omega arith) (omega arith))))
    (cases_Bool (test low))
