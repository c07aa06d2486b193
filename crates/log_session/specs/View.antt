-- What a command writes of the records of a log, which a session judges one after another.
use Rattle.std.specs.Prelude.{◌∷◌}
use Rattle.log_session.specs.Prelude.{ℕ, Bool, List, [], Option, Some, None, Result, Err, Outcome, EngineFault, BadLog, Record}
use Rattle.log_session.specs.RunOutput.{RunOutput, written_first, stopped}
use Rattle.log_session.specs.Session.{Session, Verdict, bad, Judged, judge}

-- ---- every engine judges the records by a session; most have no state but that

-- The output of a record, and the result with which it ends the run, if it does.
pub record RecordOutput : Type 0 where
  pub out : List ℕ
  pub end : Option (Result Outcome EngineFault)

-- Some output, after which the run continues.
abbrev pub writes : List ℕ → RecordOutput
writes out = record { out = out; end = None }

-- Some output, after which the run ends with this result.
abbrev pub ends : List ℕ → Result Outcome EngineFault → RecordOutput
ends out answer = record { out = out; end = Some answer }

-- A record's output, and then that of the records after it, unless the run has ended.
abbrev pub followed_by : List ℕ → Option (Result Outcome EngineFault) → RunOutput → RunOutput
followed_by out None c = written_first out c
followed_by out (Some answer) c = stopped out answer

-- What a command writes of a log, with a state of its own. `record_output` is a record's output,
-- from the state and the session before it and the judgement of it, `next` the state after it.
-- `end_output` is the output at the end, with the line of version 2 due and without, `outcome` the
-- outcome then.
pub record View (State : Type 0) : Type 0 where
  pub record_output : State → Session → Record → Judged → RecordOutput
  pub next : State → Session → Record → Judged → State
  pub end_output : State → Session → Bool → List ℕ
  pub outcome : State → Session → Outcome

-- The output of an engine for records that a session judges one after another.
abbrev pub output_in : {State : Type 0} → View State → State → Session → List Record → RunOutput
output_in view state s []
    = record {
      out = [];
      stop = None;
      last = view.end_output state s;
      outcome = view.outcome state s;
    }
output_in view state s (r ∷ rs) =
    followed_by (view.record_output state s r (judge s r)).out
    (view.record_output state s r (judge s r)).end
    (output_in view (view.next state s r (judge s r)) (judge s r).session rs)

-- A record that can't be in a log ends the run of a log command, at the record's first byte.
abbrev pub unless_bad : Record → Verdict → RecordOutput → RecordOutput
unless_bad r bad given = ends [] (Err (BadLog r.head.place))
unless_bad r verdict given = given
