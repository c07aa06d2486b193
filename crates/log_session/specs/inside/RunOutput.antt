-- What only proofs and private contracts use of `RunOutput`.
use Rattle.std.specs.Prelude.{◌≡◌, ◌⊎◌, ◌<◌, ◌++◌, ◌∷◌, MatchOption}
use Rattle.log_session.specs.Prelude.{ℕ, Bool, false, List, [], drop, Option, Some, None, Ok, Err, Record, Outcome, EngineFault, BodyTooLong, NoMemory, BadLog}
use Rattle.log_session.specs.declared.output.Given.{Given}
use Rattle.log_session.specs.declared.output.Output.{Output}
use Rattle.log_session.specs.RunOutput.{RunOutput, written_first, stopped}
use Rattle.log_session.specs.declared.output.Output.TheVariants as output

-- A record's output, and then the output of those after it, or the end of the run if the record
-- ends it.
abbrev pub after : List ℕ → Option Outcome → RunOutput → RunOutput
after bytes None c = written_first bytes c
after bytes (Some outcome) c = stopped bytes (Ok outcome)

-- Without more records nothing more is written, and the run goes on.
pub record IsQuiet (run_output : List Record → RunOutput) : Type 0 where
  pub silent : (run_output []).out ≡ []
  pub unstopped : (run_output []).stop ≡ None

-- A record's output: its frame, or the buffer that was filled for it, all of it or from an index
-- on.
abbrev pub output_of : Output → List ℕ → List ℕ → List ℕ
output_of output.Frame raw buffer = raw
output_of output.Bytes raw buffer = buffer
output_of (output.BytesFrom start) raw buffer = drop start buffer

-- The faults with which a record can end a run: a body too long, a bad log.
abbrev pub IsRecordFault : EngineFault → Type 0
IsRecordFault (BodyTooLong place) = Unit {0}
IsRecordFault (BadLog place) = Unit {0}
IsRecordFault other = ⊥

-- ---- what is given for a record and for the end, by the outputs of a run before it and after it

-- A record's output, and whether it ends the run. `buffer` was filled for it.
abbrev pub IsGiven : (List Record → RunOutput) → (List Record → RunOutput) → Record → List ℕ
    → Given → Type 0
IsGiven old new r buffer given = (more : List Record) →
    old (r ∷ more) ≡ after (output_of given.output r.raw buffer) given.end (new more)

-- A fault: memory has run out, or the record ends the run with it.
abbrev pub IsFaultAt : (List Record → RunOutput) → Record → EngineFault → Type 0
IsFaultAt old r fault = (fault ≡ NoMemory)
    ⊎ (IsRecordFault fault × ((more : List Record) → old (r ∷ more) ≡ stopped [] (Err fault)))

-- A part of the output at the end; with the last part comes the outcome. So many parts may still
-- come before it and after it.
abbrev pub IsLastPart : RunOutput → RunOutput → ℕ → ℕ → Bool → List ℕ → Option Outcome → Type 0
IsLastPart old new parts_old parts_new line_due buffer end = MatchOption end
    ((old.last line_due ≡ buffer ++ new.last false) × (new.outcome ≡ old.outcome)
    × (parts_new < parts_old))
    (λ outcome. (old.last line_due ≡ buffer) × (outcome ≡ old.outcome))
