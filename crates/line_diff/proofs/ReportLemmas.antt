-- The words for several lines, as a loop writes them.
use Rattle.line_diff.proofs.Prelude.{◌≡◌, ℕ, ◌+◌, ◌-◌, ◌<◌, List, ◌++◌, add-one, arith, words_from, common_steps}

pub words_more : (words : ℕ → List ℕ) (n i : ℕ) → i < n
    → words_from words (n - i) i ≡ words i ++ words_from words (n - (i + 1)) (i + 1)
words_more words n i within = grind (arith, common_steps, add-one)
