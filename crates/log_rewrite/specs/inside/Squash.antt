-- What `normalise` writes with squash, as the code makes it: of an open series the bytes are kept
-- that are written if its one message is refused. That it is the same is shown in
-- `proofs/Squash/SeriesLemmas.antt`.
use Rattle.std.specs.Prelude.{◌≡◌, ◌++◌, if◌then◌else◌}
use Rattle.log_rewrite.specs.Prelude.{ℕ, is_none, nat_lt, length, List, [], Option, Some, None, Result, Err, bytes_eq, frame, reading, DocumentItem, ChangeData, SquashData, squash_of, squash_frame, squash_refusal, entry_at, incoming_of, ServerData, session_encoding, changed, Settings, Outcome, EngineFault, BadLog, BodyTooLong, Record}
use Rattle.log_session.specs.RunOutput.{RunOutput}
use Rattle.log_session.specs.View.{View, output_in}
use Rattle.log_rewrite.specs.Normalise.{front_of}
use Rattle.log_session.specs.Canonical.{change_in, canonical_change_body}
use Rattle.log_session.specs.Selection.{line_if}
use Rattle.log_session.specs.Settings.{log_config}
use Rattle.log_session.specs.Session.{Session, Verdict, answered, bad, Judged, judge, opened, session_outcome}
use Rattle.log_session.specs.inside.Taken.{joined_by}

-- ---- a series, by the bytes that the code keeps of it

-- An open series, as it is written once it ends.
pub record OpenSeries : Type 0 where
  -- the bytes before its first record's frame
  pub front : List ℕ
  -- its records as they are written without squash
  pub singles : List ℕ
  -- its batches together, on the document before it
  pub squash : SquashData

-- A series is written as the one canonical message of all its batches. If that has too many changes
-- or is too long, the series is written as without squash.
abbrev pub open_bytes : OpenSeries → List ℕ
open_bytes series = if is_none (squash_refusal series.squash)
    then series.front ++ squash_frame series.squash else series.singles

-- The output when the open series ends, if one is open.
abbrev pub end_bytes : Option OpenSeries → List ℕ
end_bytes None = []
end_bytes (Some series) = open_bytes series

-- A series that a change begins, on the document before it. `single` is the record as it is written
-- without squash.
abbrev pub begun_on : ServerData → ChangeData → List ℕ → List ℕ → Option DocumentItem
    → Option OpenSeries
begun_on server p front single None = None
begun_on server p front single (Some entry) =
    Some (record {
      front = front;
      singles = single;
      squash = joined_by p (squash_of server.config.limits (session_encoding server) entry);
    })

-- The same on the documents of a server.
abbrev pub begun : ServerData → ChangeData → List ℕ → List ℕ → Option OpenSeries
begun server p front single = begun_on server p front single (entry_at server.table p.uri)

-- A series after one more change.
abbrev pub longer : OpenSeries → ChangeData → List ℕ → OpenSeries
longer series p single
    = record series { singles = series.singles ++ single; squash = joined_by p series.squash }

-- ---- the output of a record, and the series that is open after it

-- A record's output, the result with which it ends the command's run, if it does, and the series
-- that is open after it.
pub record Step : Type 0 where
  pub out : List ℕ
  pub end : Option (Result Outcome EngineFault)
  pub series : Option OpenSeries

-- After a fault nothing more is written, the open series neither.
abbrev pub faulty : EngineFault → Step
faulty fault = record { out = []; end = Some (Err fault); series = None }

-- An accepted change joins the open series if it is of the same document. Else it ends that series
-- and begins one.
abbrev pub change_output : ServerData → ChangeData → List ℕ → List ℕ → Option OpenSeries → Step
change_output server p front single None
    = record { out = []; end = None; series = begun server p front single }
change_output server p front single (Some series) =
    if bytes_eq p.uri series.squash.uri then
    record { out = []; end = None; series = Some (longer series p single) }
    else record { out = open_bytes series; end = None; series = begun server p front single }

-- Its own canonical message must not be too long.
abbrev pub change_step : ServerData → Record → ChangeData → List ℕ → Option OpenSeries → Step
change_step server r p front series =
    if nat_lt server.config.limits.max_body (length (canonical_change_body server p)) then
    faulty (BodyTooLong r.head.place)
    else change_output server p front (front ++ frame (canonical_change_body server p)) series

-- Any other record ends the open series, and is written as it is.
abbrev pub other_step : Record → List ℕ → Option OpenSeries → Step
other_step r front series
    = record { out = end_bytes series ++ (front ++ r.raw); end = None; series = None }

-- A record's output, by the change in it and the judgement of it.
abbrev pub step_if : ServerData → Record → List ℕ → Option OpenSeries → Option ChangeData
    → Verdict → Step
step_if server r front series change bad = faulty (BadLog r.head.place)
step_if server r front series (Some p) (answered changed) = change_step server r p front series
step_if server r front series change verdict = other_step r front series

-- The same from the session before the record.
abbrev pub squash_step : Session → Option OpenSeries → Record → Judged → Step
squash_step s series r j
    = step_if s.server r (front_of r.head) series (change_in (incoming_of (reading r.body)))
    j.verdict

-- ---- all records

-- The state is the open series. The end of the input ends it. A log of version 2 without records is
-- its line.
abbrev pub squash_view : View (Option OpenSeries)
squash_view = record {
  record_output = λ series s r j.
      record { out = (squash_step s series r j).out; end = (squash_step s series r j).end };
  next = λ series s r j. (squash_step s series r j).series;
  end_output = λ series s line_due. end_bytes series ++ line_if line_due;
  outcome = λ series s. session_outcome s;
}

-- ---- what only proofs and private contracts use

-- The open series: its bytes and its batches, if any are open.
abbrev pub series_of : List ℕ → List ℕ → Option SquashData → Option OpenSeries
series_of front singles None = None
series_of front singles (Some squash)
    = Some (record { front = front; singles = singles; squash = squash })

-- How far a log is squashed: the session, and the open series.
pub record Squashing : Type 0 where
  pub session : Session
  pub series : Option OpenSeries

-- The output for records before which this series is open, and for all records.
abbrev pub squashed_in : Session → Option OpenSeries → List Record → RunOutput
squashed_in s series = output_in squash_view series s

abbrev pub squashed_steps : Settings → List Record → RunOutput
squashed_steps settings = squashed_in (opened (log_config settings)) None

-- The step of a record.
abbrev pub step_at : Squashing → Record → Step
step_at old r = squash_step old.session old.series r (judge old.session r)

-- A record was written: this is its output, and the run of the command continues.
pub record IsSquashStep (old : Squashing) (r : Record) (out : List ℕ)
    (new : Squashing) : Type 0 where
  pub session : new.session ≡ (judge old.session r).session
  pub step : step_at old r ≡ record { out = out; end = None; series = new.series }
