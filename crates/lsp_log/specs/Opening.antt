-- The first bytes of an input.
use Rattle.std.specs.Prelude.{ℕ, ◌≡◌, ◌<◌, ◌⊎◌, Bool, true, false, List, [], length, take, Option}
use Rattle.std.specs.Io.KnownBytes.{Consumes}
use Rattle.lsp_log.specs.Log.{LogRules, Log, HasNoRecord, IsUndecided, version_line}

-- The bytes are some first bytes of the line of version 2, and not all.
abbrev pub IsLineFront : List ℕ → Type 0
IsLineFront bytes = (length bytes < length version_line)
    × (bytes ≡ take (length bytes) version_line)

-- Only such bytes were read, and none if versions aren't recognised.
abbrev pub IsBelowLine : Bool → Option (List ℕ) → Option (List ℕ) → Type 0
IsBelowLine versions left_old left_new =
    (input : List ℕ) × IsLineFront input × (versions ≡ false → input ≡ [])
    × Consumes left_old left_new input

-- What was read of an input has no fault so far: no complete record is left. The rest is empty or
-- an incomplete record, or the input may still become the line of version 2.
pub record IsUnfinished (log_rules : LogRules) (input : List ℕ) (log : Log) : Type 0 where
  pub none : HasNoRecord log_rules.max_body log
  pub undecided : IsUndecided log_rules.max_body log
      ⊎ ((log_rules.versions ≡ true) × IsLineFront input)
