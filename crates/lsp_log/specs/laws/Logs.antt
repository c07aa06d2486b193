-- What holds of every log and of every splitter.
use Rattle.std.specs.Prelude.{ℕ, ◌≡◌, Bool, true, List, [], ◌∷◌, ◌++◌}
use Rattle.lsp_frame.specs.Frame.{IsFrameOf}
use Rattle.lsp_log.specs.declared.record.Version.{Version}
use Rattle.lsp_log.specs.declared.record.Version.TheVariants.{One}
use Rattle.lsp_log.specs.declared.splitter.Splitter.{Splitter}
use Rattle.lsp_log.specs.Log.{LogRules, Record, Log, IsReadAs, HasNoRecord, IsUndecided, IsVersion}
use Rattle.lsp_log.specs.Splitting.{IsFed, IsReady, IsAfter, log_at, record_at}

-- The complete records of an input are one list, and what is left after them is one.
abbrev pub UniqueLaw : Type 0
UniqueLaw =
    (log_rules : LogRules) (input : List ℕ) (log other : Log) → IsReadAs log_rules input log →
    HasNoRecord log_rules.max_body log
    → IsReadAs log_rules input other → HasNoRecord log_rules.max_body other → log ≡ other

-- All complete records of an input, and the rest after them.
pub record AllRecords (log_rules : LogRules) (input : List ℕ) : Type 0 where
  pub log : Log
  pub reads : IsReadAs log_rules input log
  pub none : HasNoRecord log_rules.max_body log

-- Each input has such a list, unless it is of version 2 and only version 1 is accepted.
abbrev pub AllRecordsLaw : Type 0
AllRecordsLaw =
    (log_rules : LogRules) (input : List ℕ) →
    (log_rules.refuses_two ≡ true → IsVersion log_rules.versions One input)
    → AllRecords log_rules input

-- An input has one version.
abbrev pub VersionLaw : Type 0
VersionLaw =
    (versions : Bool) (version other : Version) (input : List ℕ) → IsVersion versions version input
    → IsVersion versions other input → version ≡ other

-- Some first records of an input are the first of all its complete ones. They are all if no record
-- begins their rest.
pub record IsFirstOf (log_rules : LogRules) (log all : Log) : Type 0 where
  pub more : List Record
  pub all_are : all.records ≡ log.records ++ more
  pub same : HasNoRecord log_rules.max_body log → log ≡ all

-- Any records that an input begins with are the first of all its complete ones.
abbrev pub FirstLaw : Type 0
FirstLaw =
    (log_rules : LogRules) (input : List ℕ) (log all : Log) → IsReadAs log_rules input log →
    IsReadAs log_rules input all
    → HasNoRecord log_rules.max_body all → IsFirstOf log_rules log all

-- ---- at a splitter

-- A complete frame in its buffer is the next record of the input.
abbrev pub BufferedLaw : Type 0
BufferedLaw =
    (log_rules : LogRules) (input more body : List ℕ) (records : List Record) (s : Splitter)
    → IsFed s
    → IsFrameOf s.framer.limits.max_body s.framer.buffered body →
    IsAfter log_rules input more records s
    → IsReadAs log_rules input
    (record { version = s.version; records = records ++ record_at s body ∷ []; rest = more })

-- If no frame is complete and all bytes were taken, its buffer is empty or the beginning of a
-- record.
abbrev pub RestLaw : Type 0
RestLaw =
    (log_rules : LogRules) (input : List ℕ) (records : List Record) (s : Splitter) → IsReady s
    → IsAfter log_rules input [] records s → IsUndecided log_rules.max_body (log_at s records [])
