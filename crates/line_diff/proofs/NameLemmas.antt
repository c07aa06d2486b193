-- Names without `./` at their front.
use Rattle.line_diff.proofs.Prelude.{◌≡◌, ℕ, true, false, List, [], ◌∷◌, codes, drop, take, arith, common_steps}
use Rattle.std.proofs.lemmas.Bool.{cond-true, cond-false}
use Rattle.std.specs.Str.{bytes_eq}
use Rattle.line_diff.specs.Names.{bare}

pub bare_more : (name : List ℕ) → bytes_eq (take 2 name) (codes "./") ≡ true → bare name ≡ bare (drop 2 name)
bare_more [] dots = grind (arith, common_steps)
bare_more (dot ∷ []) dots = grind (arith, common_steps)
bare_more (dot ∷ slash ∷ rest) dots = cond-true _ _ _ dots

pub bare_none : (name : List ℕ) → bytes_eq (take 2 name) (codes "./") ≡ false → bare name ≡ name
bare_none [] none = grind (arith, common_steps)
bare_none (dot ∷ []) none = grind (arith, common_steps)
bare_none (dot ∷ slash ∷ rest) none = cond-false _ _ _ none
