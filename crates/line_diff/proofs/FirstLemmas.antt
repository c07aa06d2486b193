-- The first of several numbers with a property, as a loop finds it.
use Rattle.line_diff.proofs.Prelude.{◌≡◌, ℕ, ◌+◌, ◌-◌, ◌<◌, Bool, false, refl, add-one, arith, ◌==◌, not, first_with, common_steps}
use Rattle.std.proofs.Common.{eq-eqb}

pub first_passed : (property : ℕ → Bool) (n i : ℕ) → i < n → property i ≡ false
    → first_with property (n - i) i ≡ first_with property (n - (i + 1)) (i + 1)
first_passed property n i within missed = grind (arith, common_steps, add-one)

pub same_number : (a b : ℕ) → a ≡ b → not (a == b) ≡ false
same_number a b same = rw (eq-eqb a b same) refl
