-- The output of an engine for the records of a log and for its end.
use Rattle.std.specs.Prelude.{◌++◌}
use Rattle.log_session.specs.Prelude.{ℕ, Bool, List, [], Option, Some, None, Result, Outcome, EngineFault}

-- The output of an engine for some records, one after another.
pub record RunOutput : Type 0 where
  -- the output of the records
  pub out : List ℕ
  -- the result of the record that ended the run, if one did
  pub stop : Option (Result Outcome EngineFault)
  -- the output at the end of the input: with the line of version 2 due, and without
  pub last : Bool → List ℕ
  -- the outcome at the end of the input
  pub outcome : Outcome

-- Some output, and then the output of `c`.
abbrev pub written_first : List ℕ → RunOutput → RunOutput
written_first bytes c = record c { out = bytes ++ c.out }

-- Some output, and then a result: nothing after it is read, so there is no end of the input. What
-- the two other fields have means nothing.
abbrev pub stopped : List ℕ → Result Outcome EngineFault → RunOutput
stopped bytes answer
    = record {
      out = bytes;
      stop = Some answer;
      last = λ _. [];
      outcome = record { status = 0; messages = 0; refused = 0; missing = None };
    }
