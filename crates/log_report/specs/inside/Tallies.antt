-- Where something was counted in a list.
use Rattle.std.specs.Prelude.{ℕ, ◌≡◌, ◌<◌, ◌∷◌, ◌++◌, [], List, length, set, slice_index_or, Option, Some, None}
use Rattle.log_report.specs.Tallies.{Tally, count_of, raised, tallied}

-- At this index, or nowhere.
abbrev pub IsTallyAt : List ℕ → List Tally → Option ℕ → Type 0
IsTallyAt words ts None =
    ((number : ℕ)
    → tallied words number ts ≡ ts ++ record { words = words; count = 1; first = number } ∷ [])
    × (count_of words ts ≡ 0)
IsTallyAt words ts (Some index) = (index < length ts)
    × ((d : Tally) (number : ℕ)
    → tallied words number ts ≡ set ts index (raised (slice_index_or ts index d)))
    × ((d : Tally) → count_of words ts ≡ (slice_index_or ts index d).count)
