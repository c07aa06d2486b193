-- A binary search: how many looks it may still take.
use Rattle.lsp_text.proofs.Prelude.{◌≡◌, ℕ, zero, suc, ◌+◌, ◌-◌, ◌/◌, ◌≤◌, ◌<◌, ◌^◌, List, length, slice_index, arith, ap, pow-suc, AreStarts}

-- Where `looks_made` looks were made and `size` starts are left, so many looks more that there are at most `most` in
-- all are enough.
pub record LooksLeft (size looks_made most : ℕ) : Type 0 where
  pub left : ℕ
  pub enough : size ≤ 2 ^ left
  pub sum : looks_made + left ≤ most

-- A look halves what is left.
pub looks_one : (size half looks_made more most : ℕ) → 1 < size → half ≤ size - size / 2 → more ≤ looks_made + 1
    → LooksLeft size looks_made most → LooksLeft half more most
looks_one size half looks_made more most big halved counted looks = by_left looks.left looks.enough looks.sum
  where
    by_left : (left : ℕ) → size ≤ 2 ^ left → looks_made + left ≤ most → LooksLeft half more most
    by_left zero enough sum = absurd (omega arith)
    by_left (suc left) enough sum = record { left = left; enough = omega (arith, pow-suc 2 left); sum = omega arith }

-- What a look at the middle says of the starts.
pub looked_low : (now old : List ℕ) (middle place start : ℕ) → now ≡ old → start ≡ slice_index now middle
    → start ≤ place → slice_index old middle ≤ place
looked_low now old middle place start same look low = omega (arith, look, ap (λ starts. slice_index starts middle) same)

pub looked_high : (now old : List ℕ) (middle place start : ℕ) → now ≡ old → start ≡ slice_index now middle
    → place < start → AreStarts old → (k : ℕ) → middle ≤ k → k < length old → place < slice_index old k
looked_high now old middle place start same look high are k rest_after within =
    omega (arith, look, ap (λ starts. slice_index starts middle) same, are.ascend middle k rest_after within)
