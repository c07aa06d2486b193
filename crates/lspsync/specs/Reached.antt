-- Up to which record a faulty log can be replayed.
use Rattle.std.specs.Prelude.{◌≡◌}
use Rattle.lspsync.specs.Prelude.{ℕ, List, Option, Some, None, Ok, Keeps, ReaderState, WriterState, ports, allowed_turns, Settings, Outcome, part_engine, IsEngineRun}
use Rattle.lspsync.specs.Openings.{file_opened, nothing_written}

-- `replay --at` writes the texts after the record of this number, of a file with these bytes, where
-- they are known.
pub record IsReplayedRun (settings : Settings) (left : Option (List ℕ)) (number : ℕ) : Type 0 where
  -- the file and the output after the run
  pub file : ReaderState
  pub writer : WriterState
  pub outcome : Outcome
  pub ran : IsEngineRun (part_engine settings (record { at = Some number; uri = None }))
      allowed_turns (ports (file_opened left) nothing_written) (ports file writer) (Ok outcome)
  pub whole : outcome.missing ≡ None

-- The same of a file that was read from its beginning on. Of its bytes this may be known.
abbrev pub IsReplayed : Settings → Option (List ℕ) → ℕ → Type 0
IsReplayed settings known number = (left : Option (List ℕ)) × Keeps known left
    × IsReplayedRun settings left number
