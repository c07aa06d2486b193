-- Where a document is among those that were opened, closed or refused last.
use Rattle.std.specs.Prelude.{ℕ, ◌≡◌, ◌<◌, List, length, remove, slice_index_or, Option, Some, None}
use Rattle.log_report.specs.Mentions.{Mention, last_record, without}

-- At this index, or nowhere.
abbrev pub IsFoundAt : List ℕ → List Mention → Option ℕ → Type 0
IsFoundAt uri mentions None = (without uri mentions ≡ mentions) × (last_record uri mentions ≡ None)
IsFoundAt uri mentions (Some index) = (index < length mentions)
    × (without uri mentions ≡ remove mentions index)
    × ((d : Mention) → last_record uri mentions ≡ Some (slice_index_or mentions index d).number)
