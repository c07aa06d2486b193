-- Line starts, and the search in them.
use Rattle.std.specs.Prelude.{ℕ, ◌≡◌, ◌≤◌, ◌<◌, List, length, slice_index}

-- There is at least one start, the first is 0, and they ascend.
pub record AreStarts (starts : List ℕ) : Type 0 where
  pub some : 0 < length starts
  pub first : slice_index starts 0 ≡ 0
  pub ascend : (j k : ℕ) → j ≤ k → k < length starts → slice_index starts j ≤ slice_index starts k

-- `line` is the last line whose start is at most the byte offset.
pub record IsLineOf (starts : List ℕ) (place line : ℕ) : Type 0 where
  pub within : line < length starts
  pub at_most : slice_index starts line ≤ place
  pub greatest : (later : ℕ) → line < later → later < length starts →
      place < slice_index starts later
