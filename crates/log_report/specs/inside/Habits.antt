-- Where a document is among those that came last.
use Rattle.std.specs.Prelude.{ℕ, ◌≡◌, ◌<◌, List, length, remove, slice_index_or, Option, Some, None}
use Rattle.log_report.specs.Habits.{Habits, all_but, habits_of, no_habits}

-- At this index, or nowhere.
abbrev pub IsHabitsAt : List ℕ → List Habits → Option ℕ → Type 0
IsHabitsAt uri hs None = (all_but uri hs ≡ hs) × (habits_of uri hs ≡ no_habits uri)
IsHabitsAt uri hs (Some index) = (index < length hs) × (all_but uri hs ≡ remove hs index)
    × ((d : Habits) → habits_of uri hs ≡ slice_index_or hs index d)
