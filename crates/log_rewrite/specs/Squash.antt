-- `normalise` with squash: accepted changes of one document, with no other record between them, are
-- written as one message.
use Rattle.std.specs.Prelude.{◌++◌, if◌then◌else◌, ◌∷◌}
use Rattle.log_rewrite.specs.Prelude.{ℕ, Bool, false, is_none, map, flat_map, List, [], Option, Some, None, option_map, Result, bytes_eq, reading, ChangeData, DocumentItem, SquashData, squash_of, squash_after, squash_frame, squash_refusal, entry_at, incoming_of, session_encoding, content_change_from_data, changed, Settings, Outcome, EngineFault, Record}
use Rattle.log_session.specs.RunOutput.{RunOutput}
use Rattle.log_session.specs.View.{RecordOutput, View, writes, ends, output_in}
use Rattle.log_rewrite.specs.Normalise.{front_of, normalising, canonical_log}
use Rattle.log_session.specs.Canonical.{change_in}
use Rattle.log_session.specs.Selection.{line_if}
use Rattle.log_session.specs.Settings.{log_config}
use Rattle.log_session.specs.Session.{Session, Verdict, answered, Judged, opened, session_outcome}
use Rattle.log_session.specs.Run.{Engine, log_engine}

-- ---- a series: accepted changes of one document, one after another

-- A change in a series.
pub record SeriesChange : Type 0 where
  pub change : ChangeData
  -- the document before it, with no batch yet
  pub document : SquashData
  -- the bytes before the record's frame
  pub front : List ℕ
  -- the record as it is written without squash
  pub single : List ℕ

-- The batches of some changes, together with those of a squash before them.
abbrev pub joined : SquashData → List SeriesChange → SquashData
joined squash [] = squash
joined squash (c ∷ more) =
    joined (squash_after squash c.change.version (map content_change_from_data c.change.changes)) more

-- A series is written as the one canonical message of all its batches. If that has too many changes
-- or is too long, each of its changes is written as without squash.
abbrev pub series_written : List SeriesChange → List ℕ
series_written [] = []
series_written (first ∷ more) =
    if is_none (squash_refusal (joined first.document (first ∷ more)))
    then first.front ++ squash_frame (joined first.document (first ∷ more))
    else flat_map (λ (c : SeriesChange). c.single) (first ∷ more)

-- Does a change join a series? It does if it is of the same document.
abbrev pub joins : List SeriesChange → SeriesChange → Bool
joins [] c = false
joins (first ∷ more) c = bytes_eq c.change.uri first.document.uri

-- ---- a log is cut into series

-- The change in a record, on the document before it. `single` is the record as it is written
-- without squash.
abbrev pub change_on : Session → Record → List ℕ → ChangeData → DocumentItem → SeriesChange
change_on s r single p entry = record {
  change = p;
  document = squash_of s.server.config.limits (session_encoding s.server) entry;
  front = front_of r.head;
  single = single;
}

-- The same, if the change is accepted. Its document is open then.
abbrev pub change_if : Session → Record → List ℕ → Option ChangeData → Verdict → Option SeriesChange
change_if s r single (Some p) (answered changed) =
    option_map (change_on s r single p) (entry_at s.server.table p.uri)
change_if s r single change verdict = None

-- The same from the bytes of the record's body.
abbrev pub series_change : Session → Record → Judged → Option SeriesChange
series_change s r j =
    change_if s r (normalising.record_output tt s r j).out
    (change_in (incoming_of (reading r.body))) j.verdict

-- The series that is open after a record: any record but an accepted change ends it, and so does a
-- change of another document, which begins one.
abbrev pub series_after : List SeriesChange → Option SeriesChange → List SeriesChange
series_after series None = []
series_after series (Some c) = if joins series c then series ++ c ∷ [] else c ∷ []

-- What is written at a record, by what it is without squash: the series that it ends, and a record
-- that is no change. At a fault nothing is written, the open series neither.
abbrev pub squash_output : List SeriesChange → Option SeriesChange → List ℕ
    → Option (Result Outcome EngineFault) → RecordOutput
squash_output series change single (Some answer) = ends [] answer
squash_output series None single None = writes (series_written series ++ single)
squash_output series (Some c) single None =
    writes (if joins series c then [] else series_written series)

-- The state is the open series. The end of the input ends it. A log of version 2 without records is
-- its line.
abbrev pub squashing : View (List SeriesChange)
squashing = record {
  record_output = λ series s r j.
      squash_output series (series_change s r j) (normalising.record_output tt s r j).out
      (normalising.record_output tt s r j).end;
  next = λ series s r j. series_after series (series_change s r j);
  end_output = λ series s line_due. series_written series ++ line_if line_due;
  outcome = λ series s. session_outcome s;
}

-- The output of `normalise` with squash.
abbrev pub squashed : Settings → List Record → RunOutput
squashed settings = output_in squashing [] (opened (log_config settings))

-- ---- `normalise`, with squash and without

-- The output of `normalise`, with squash or without.
abbrev pub normalised_if : Bool → Settings → List Record → RunOutput
normalised_if squash settings = if squash then squashed settings else canonical_log settings

-- The output of `normalise` with its settings.
abbrev pub normalised : Settings → List Record → RunOutput
normalised settings = normalised_if settings.squash settings

-- `normalise`.
abbrev pub normalise_engine : Settings → Engine
normalise_engine settings = log_engine settings (normalised settings)
