-- What holds of every log, and of the logs that the commands write of it.
use Rattle.std.specs.Prelude.{◌≡◌, ◌≤◌, ◌∷◌}
use Rattle.log_rewrite.specs.Prelude.{ℕ, Bool, List, [], length, Option, None, Consumes, Appends, frame, AreInRange, reply, Settings, Outcome, Record, Log, LogRules, IsReadAs, Result, IfOk, EngineFault, Ports}
use Rattle.log_session.specs.RunOutput.{RunOutput}
use Rattle.log_session.specs.Engine.{all_of}
use Rattle.log_session.specs.Replay.{report}
use Rattle.log_rewrite.specs.Normalise.{canonical_log, whole_log}
use Rattle.log_rewrite.specs.Convert.{converted, as_converted}
use Rattle.log_session.specs.Settings.{as_log, log_config}
use Rattle.log_session.specs.Session.{Session, Verdict, answered, judge, opened}
use Rattle.log_rewrite.specs.Squash.{squashed}

-- This holds of what is written of each log in which no record ends the run.
abbrev pub LogLaw : (Settings → LogRules) → (Settings → List Record → RunOutput)
    → (Settings → List Record → List ℕ → Type 0) → Type 0
LogLaw rules g Holds =
    (settings : Settings) → AreInRange settings.limits → (input : List ℕ) (log : Log) →
    IsReadAs (rules settings) input log → log.rest ≡ [] → (g settings log.records).stop ≡ None →
    Holds settings log.records (all_of (g settings) log)

-- The bytes are a log, records and nothing else. `replay` reports of it what it reports of these
-- records: the same documents, status and counts.
pub record ReportsAlike (settings : Settings) (records : List Record)
    (bytes : List ℕ) : Type 0 where
  pub log : Log
  pub reads : IsReadAs (as_log settings) bytes log
  pub whole : log.rest ≡ []
  pub to_end : (report settings log.records).stop ≡ None
  pub alike : report settings log.records ≡ report settings records

-- The same, and `normalise` writes the same bytes again. Its own status and counts are those of
-- `replay`.
pub record IsCanonicalLog (settings : Settings) (records : List Record)
    (bytes : List ℕ) : Type 0 where
  pub outcome : (canonical_log settings records).outcome ≡ (report settings records).outcome
  pub reports : ReportsAlike settings records bytes
  pub continues : (canonical_log settings reports.log.records).stop ≡ None
  pub again : all_of (canonical_log settings) reports.log ≡ bytes

-- What `normalise` writes.
abbrev pub CanonicalLogLaw : Type 0
CanonicalLogLaw = LogLaw as_log canonical_log IsCanonicalLog

-- ---- `normalise --whole`

-- The bytes are a log of which `replay` reports the same, and `--whole` writes the same bytes again.
-- Its own status and counts are those of `replay`.
pub record IsWholeLog (settings : Settings) (records : List Record) (bytes : List ℕ) : Type 0 where
  pub outcome : (whole_log settings records).outcome ≡ (report settings records).outcome
  pub reports : ReportsAlike settings records bytes
  pub continues : (whole_log settings reports.log.records).stop ≡ None
  pub again : all_of (whole_log settings) reports.log ≡ bytes

-- What `normalise --whole` writes.
abbrev pub WholeLogLaw : Type 0
WholeLogLaw = LogLaw as_log whole_log IsWholeLog

-- The bytes are a log, and `--whole` of it is `--whole` of these records, after this line.
pub record IsSameWhole (settings : Settings) (log : Log) (bytes : List ℕ) : Type 0 where
  pub normal : Log
  pub reads : IsReadAs (as_log settings) bytes normal
  pub whole : normal.rest ≡ []
  pub same : all_of (whole_log settings) normal ≡ all_of (whole_log settings) log

-- `--whole` of what `normalise` wrote is `--whole` of the log.
abbrev pub WholeOfCanonicalLaw : Type 0
WholeOfCanonicalLaw =
    (settings : Settings) → AreInRange settings.limits → (input : List ℕ) (log : Log) →
    IsReadAs (as_log settings) input log → log.rest ≡ []
    → (canonical_log settings log.records).stop ≡ None
    → (whole_log settings log.records).stop ≡ None
    → IsSameWhole settings log (all_of (canonical_log settings) log)

-- The outcome has the status and the counts of `replay`, and of the bytes this holds.
abbrev pub IsReported : Settings → (List Record → List ℕ → Type 0) → List Record → Outcome
    → List ℕ → Type 0
IsReported settings Holds records outcome bytes =
    (outcome ≡ (report settings records).outcome) × Holds records bytes

-- An engine came to the end of a log, and wrote bytes of which this holds.
pub record Wrote (settings : Settings) (Holds : List Record → Outcome → List ℕ → Type 0)
    (left_old left_new received_old received_new : Option (List ℕ))
    (outcome : Outcome) : Type 0 where
  -- the bytes that were read
  pub input : List ℕ
  pub read : Consumes left_old left_new input
  -- they are this log, records and nothing else
  pub log : Log
  pub reads : IsReadAs (as_log settings) input log
  pub whole : log.rest ≡ []
  -- the output
  pub bytes : List ℕ
  pub wrote : Appends received_old received_new bytes
  pub holds : Holds log.records outcome bytes

-- ---- `convert`

-- A reply's body is within the limit.
abbrev pub IsReplyWithin : ℕ → Verdict → Type 0
IsReplyWithin max_body (answered (reply m)) = (body : List ℕ) → m.frame ≡ frame body →
    length body ≤ max_body
IsReplyWithin max_body verdict = Unit {0}

-- So is the body of each reply to these records.
abbrev pub AreRepliesWithin : ℕ → Session → List Record → Type 0
AreRepliesWithin max_body s [] = Unit {0}
AreRepliesWithin max_body s (r ∷ rs) = IsReplyWithin max_body (judge s r).verdict
    × AreRepliesWithin max_body (judge s r).session rs

-- What `convert` writes is a log of which `replay` reports the same, if each reply's body is within
-- the limit. Its own status and counts are those of `replay`.
pub record IsConverted (settings : Settings) (records : List Record) (bytes : List ℕ) : Type 0 where
  pub outcome : (converted settings records).outcome ≡ (report settings records).outcome
  pub reports : AreRepliesWithin settings.limits.max_body (opened (log_config settings)) records →
      ReportsAlike settings records bytes

-- What `convert` writes.
abbrev pub ConvertedLaw : Type 0
ConvertedLaw = LogLaw as_converted converted IsConverted

-- ---- reading

-- `replay` writes nothing before the end of the input.
abbrev pub ReportLaw : Type 0
ReportLaw = (settings : Settings) (records : List Record) → (report settings records).out ≡ []

-- ---- `normalise` with squash

-- The bytes are a log, records and nothing else. `replay` reports of it the documents of these
-- records, with the same status and as many refusals. It has fewer messages if several were written
-- as one.
pub record LeavesAlike (settings : Settings) (records : List Record) (bytes : List ℕ) : Type 0 where
  pub log : Log
  pub reads : IsReadAs (as_log settings) bytes log
  pub whole : log.rest ≡ []
  pub to_end : (report settings log.records).stop ≡ None
  pub documents : (line_due : Bool) →
      (report settings log.records).last line_due ≡ (report settings records).last line_due
  pub status : (report settings log.records).outcome.status
      ≡ (report settings records).outcome.status
  pub refused : (report settings log.records).outcome.refused
      ≡ (report settings records).outcome.refused

-- The same, and squashed again it is the same bytes. The status and counts of the first time are
-- those of `replay`.
pub record IsSquashed (settings : Settings) (records : List Record) (bytes : List ℕ) : Type 0 where
  pub outcome : (squashed settings records).outcome ≡ (report settings records).outcome
  pub leaves : LeavesAlike settings records bytes
  pub continues : (squashed settings leaves.log.records).stop ≡ None
  pub again : all_of (squashed settings) leaves.log ≡ bytes

-- What `normalise` writes with squash.
abbrev pub SquashedLaw : Type 0
SquashedLaw = LogLaw as_log squashed IsSquashed

-- With squash a log ends as without: at the same record, for the same cause, with the same status
-- and counts.
abbrev pub StopsAlike : Type 0
StopsAlike =
    (settings : Settings) (records : List Record) →
    ((squashed settings records).stop ≡ (canonical_log settings records).stop)
    × ((squashed settings records).outcome ≡ (canonical_log settings records).outcome)

-- ---- what `normalise` and `convert` write

-- An engine that came to the end of a log wrote a log of which this holds, and its outcome has the
-- status and the counts of `replay`.
abbrev pub WritesLog : Settings → (List Record → List ℕ → Type 0) → Ports → Ports →
    Result Outcome EngineFault → Type 0
WritesLog settings Holds before after result =
    IfOk result (Wrote settings (IsReported settings Holds) before.reader.left after.reader.left
    before.writer.written after.writer.written)
