-- What the program writes, and the status that it ends with.
use Rattle.std.specs.Prelude.{◌≡◌, ◌⊎◌, ◌++◌, ◌∷◌, if◌then◌else◌}
use Rattle.lspsync.specs.Prelude.{ℕ, [], Bool, true, false, not, is_some, List, length, max, nat_lt, codes, Option, Some, None, option_map, unwrap_or, IfSome, Result, Ok, Err, String, Vec, Global, Keeps, string_bytes, kind_of, Error, EngineFault, Ports, ReaderState, WriterState, ports, IsFlushed, IsPrinted, IsTextPrinted, Streams, allowed_turns, Missing, Outcome, new_comparison, compare_engine, part_engine, Engine, IsEngineRun, check_engine, convert_engine, live, replay_engine, serve_engine, Call, Task, Wanted}
use Rattle.std.specs.Result.{result_and}
use Rattle.clap.specs.declared.error.kind.ErrorKind.{ErrorKind}
use Rattle.clap.specs.declared.error.kind.ErrorKind.TheVariants as kind
use Rattle.lsp_stream.specs.declared.fault.EngineFault.TheVariants.{Read, Write, NoMemory, TooManyTurns}
use Rattle.log_session.specs.declared.outcome.Missing.TheVariants as missing
use Rattle.log_rewrite.specs.Rewritten.{rewriting_engine}
use Rattle.log_report.specs.Explain.{explain_engine}
use Rattle.log_report.specs.Trace.{trace_engine}
use Rattle.lspsync.specs.declared.command_line.Call.TheVariants as call
use Rattle.lspsync.specs.declared.ends.Ending.{Ending}
use Rattle.lspsync.specs.Call.{AreWordsReadAs, file_of, saved_of}
use Rattle.lspsync.specs.Loaded.{with_text}
use Rattle.lspsync.specs.FaultText.{blame_text, fault_cause, fault_text}
use Rattle.lspsync.specs.OtherSettings.{IsSettingNamed, equal_text}
use Rattle.lspsync.specs.declared.other_settings.OtherSetting.{OtherSetting}
use Rattle.lspsync.specs.Openings.{AreListed, file_opened, front_known}
use Rattle.lspsync.specs.Reasons.{IsCauseOf}
use Rattle.lspsync.specs.Wanted.{IsWanted}

-- The status of a fault: 3 if a stream failed, 4 if out of memory, 5 if the input is no log.
abbrev pub status_of : EngineFault → ℕ
status_of Read = 3
status_of Write = 3
status_of NoMemory = 4
status_of TooManyTurns = 3
status_of fault = 5

-- An engine that may pass each output on before it reads on.
abbrev pub live_if : Bool → Engine → Engine
live_if true engine = live engine
live_if false engine = engine

-- The engine that a call names.
abbrev pub engine_of : Call → Engine
engine_of (call.Serve config) = serve_engine config
engine_of (call.Check settings is_live) = live_if is_live (check_engine settings)
engine_of (call.Explain settings listing is_live) =
    live_if is_live (explain_engine settings listing)
engine_of (call.Trace settings details is_live) = live_if is_live (trace_engine settings details)
engine_of (call.Replay settings) = replay_engine settings
engine_of (call.ReplayPart settings part) = part_engine settings part
engine_of (call.Compare settings against) = compare_engine settings
    (new_comparison (string_bytes against.ending) (string_bytes against.text))
engine_of (call.Normalise settings rewriting) = rewriting_engine settings rewriting
engine_of (call.Convert settings) = convert_engine settings

-- A fault of writing.
abbrev pub is_write_fault : EngineFault → Bool
is_write_fault Write = true
is_write_fault fault = false

-- A fault of the engine comes before one of the flush.
abbrev pub answer_after_flush : Result Outcome EngineFault → Result (Unit {0}) EngineFault →
    Result Outcome EngineFault
answer_after_flush (Ok outcome) (Ok _) = Ok outcome
answer_after_flush (Ok outcome) (Err fault) = Err fault
answer_after_flush (Err fault) flushed = Err fault

-- The fault of a flush that comes after a fault of the engine. Where that was one of writing already,
-- the flush shows no other.
abbrev pub fault_after : Result Outcome EngineFault → Result (Unit {0}) EngineFault →
    Option EngineFault
fault_after (Err fault) (Err failure) = if is_write_fault fault then None else Some failure
fault_after (Err fault) (Ok _) = None
fault_after (Ok outcome) flushed = None

-- The engine of a call ran, and then its output was flushed, whatever the engine answered. The
-- answer is the outcome, or the first fault. With an outcome all output was flushed.
pub record IsPerformed (asked : Call) (before after : Ports) (answer : Result Outcome EngineFault)
    (second : Option EngineFault) : Type 0 where
  pub result : Result Outcome EngineFault
  pub flushed : Result (Unit {0}) EngineFault
  -- the writer between the engine and the flush
  pub writer : WriterState
  pub ran : IsEngineRun (engine_of asked) allowed_turns before (ports after.reader writer) result
  pub kept : Keeps writer.written after.writer.written
  pub flush : IsFlushed writer after.writer flushed
  pub answered : answer ≡ answer_after_flush result flushed
  -- the output that is lost after a fault of the log
  pub lost : second ≡ fault_after result flushed

-- ---- the end of a run

-- A line on standard error, about standard input or about a file.
abbrev pub error_line : Option (List ℕ) → List ℕ → List ℕ
error_line None what = codes "lspsync: " ++ (what ++ codes "\n")
error_line (Some name) what = codes "lspsync: " ++ (name ++ (codes ": " ++ (what ++ codes "\n")))

-- A status ends a run, and so much of some lines was printed as standard error took. Did the output
-- fail?
pub record Ends (status : ℕ) (lines : List ℕ) (output_failed : Bool) (before after : WriterState)
    (ending : Ending) : Type 0 where
  pub status_is : ending.status ≡ status
  pub lines_are : IsPrinted lines before after ending.printed
  pub output : ending.output_failed ≡ output_failed

-- The ends of two parts are both_ends: the greater status, and the first failure to print.
abbrev pub both_ends : Ending → Ending → Ending
both_ends one two = record {
  status = max one.status two.status;
  printed = result_and one.printed two.printed;
  output_failed = two.output_failed;
}

-- A fault ends a run with its status and its line.
abbrev pub IsFaultEnd : EngineFault → WriterState → WriterState → Ending → Type 0
IsFaultEnd fault = Ends (status_of fault) (error_line None (fault_text fault)) (is_write_fault fault)

-- What a part of a log lacks.
abbrev pub missing_text : Missing → List ℕ
missing_text missing.Record = codes "the log has no record of this number"
missing_text missing.Document = codes "no single document was open whose URI ends so"

-- A status ends a run, with a line on standard error or with none.
abbrev pub IsStatus : Option (List ℕ) → ℕ → WriterState → WriterState → Ending → Type 0
IsStatus None status before after ending =
    (ending ≡ record { status = status; printed = Ok tt; output_failed = false }) × (after ≡ before)
IsStatus (Some text) status before after ending = Ends status text false before after ending

-- The end of a run over standard input, or over a file, that has an outcome. A line says what is
-- missing that was asked for.
abbrev pub IsOutcomeEnd : Option (List ℕ) → Outcome → WriterState → WriterState → Ending → Type 0
IsOutcomeEnd name outcome =
    IsStatus (option_map (λ what. error_line name (missing_text what)) outcome.missing) outcome.status

-- The end of a run over standard input: that of its outcome, or the report of its fault.
abbrev pub IsEnding : Result Outcome EngineFault → WriterState → WriterState → Ending → Type 0
IsEnding (Ok outcome) before after ending = IsOutcomeEnd None outcome before after ending
IsEnding (Err fault) before after ending = IsFaultEnd fault before after ending

-- Status 0 ends the program after help. A fault is reported.
abbrev pub IsHelpEnd : Result (Unit {0}) EngineFault → WriterState → WriterState → Ending → Type 0
IsHelpEnd (Ok _) before after ending = IsStatus None 0 before after ending
IsHelpEnd (Err fault) before after ending = IsFaultEnd fault before after ending

-- An end, and after it the report of a second fault, if there is one.
abbrev pub IsEndAfter : Option EngineFault → Ending → WriterState → WriterState → Ending → Type 0
IsEndAfter None first between after ending = (ending ≡ first) × (after ≡ between)
IsEndAfter (Some fault) first between after ending = (next : Ending)
    × IsFaultEnd fault between after next × (ending ≡ both_ends first next)

-- The engine of a call ran over standard input, and so it ended.
pub record IsCallDone (asked : Call) (before after : Streams) (ending : Ending) : Type 0 where
  pub answer : Result Outcome EngineFault
  pub second : Option EngineFault
  pub performed : IsPerformed asked (ports before.reader before.writer)
      (ports after.reader after.writer) answer second
  -- the end by the answer, and standard error after it
  pub first : Ending
  pub errors : WriterState
  pub ends : IsEnding answer before.errors errors first
  pub lost : IsEndAfter second first errors after.errors ending

-- ---- files

-- The line on a fault of a file, its text with the cause, and a line on what the file seems to be, if
-- it is known.
abbrev pub blame_lines : List ℕ → List ℕ → List ℕ → Option (List ℕ) → List ℕ
blame_lines name text cause None = error_line (Some name) (blame_text text cause)
blame_lines name text cause (Some hint) =
    error_line (Some name) (blame_text text cause) ++ error_line (Some name) hint

-- A fault of the log has a cause, and is reported with it or with the reason, and perhaps with a
-- hint. Another one is reported as that of standard input.
abbrev pub IsBlamed : List ℕ → Option (List ℕ) → EngineFault → Option (List ℕ) → WriterState →
    WriterState → Ending → Type 0
IsBlamed name known fault None before after ending = IsFaultEnd fault before after ending
IsBlamed name known fault (Some _) before after ending = (cause : List ℕ)
    × IsCauseOf known fault cause × (hint : Option (List ℕ))
    × Ends (status_of fault) (blame_lines name (fault_text fault) cause hint) false before after
    ending

-- The system's reason is said why a file can't be opened or read; or memory ran out.
abbrev pub IsUnreadable : List ℕ → WriterState → WriterState → Ending → Type 0
IsUnreadable name before after ending =
    ((reason : List ℕ) × Ends 3 (error_line (Some name) reason) false before after ending)
    ⊎ IsFaultEnd NoMemory before after ending

-- The line that a document is missing, and which messages opened the documents of the file.
abbrev pub IsListedEnd : List ℕ → Option Wanted → Option (List ℕ) → Outcome → WriterState →
    WriterState → Ending → Type 0
IsListedEnd name wanted known outcome before after ending = (words : List ℕ)
    × AreListed wanted known outcome.missing words
    × Ends outcome.status (error_line (Some name) (missing_text missing.Document) ++ words) false
    before after ending

-- What is said of a file whose documents should be listed, and can't be.
abbrev pub unlisted_text : List ℕ
unlisted_text = codes "its documents can't be listed: out of memory, or it can't be read to its end"

-- The line that a document is missing, and one that the others can't be listed.
abbrev pub IsUnlistedEnd : List ℕ → Outcome → WriterState → WriterState → Ending → Type 0
IsUnlistedEnd name outcome before after ending = (outcome.missing ≡ Some missing.Document)
    × Ends outcome.status (error_line (Some name) (missing_text missing.Document)
    ++ error_line (Some name) unlisted_text) false before after ending

-- A line names a setting with which the texts are equal that were compared.
abbrev pub IsEqualEnd : List ℕ → Option Wanted → Option (List ℕ) → Outcome → WriterState →
    WriterState → Ending → Type 0
IsEqualEnd name wanted known outcome before after ending = (setting : OtherSetting)
    × IsSettingNamed wanted known outcome setting
    × Ends outcome.status (error_line (Some name) (equal_text setting)) false before after ending

-- The end of a run over a file, of whose bytes this may be known. A document that is missing may be
-- reported with the list of those that the file has, or with a line that they can't be listed.
abbrev pub IsFileEnding : List ℕ → Option Wanted → Option (List ℕ) → Result Outcome EngineFault →
    WriterState → WriterState → Ending → Type 0
IsFileEnding name wanted known (Ok outcome) before after ending =
    IsOutcomeEnd (Some name) outcome before after ending
    ⊎ IsListedEnd name wanted known outcome before after ending
    ⊎ IsUnlistedEnd name outcome before after ending
    ⊎ IsEqualEnd name wanted known outcome before after ending
IsFileEnding name wanted known (Err Read) before after ending =
    IsUnreadable name before after ending ⊎ IsFaultEnd Read before after ending
IsFileEnding name wanted known (Err fault) before after ending =
    IsBlamed name known fault (fault_cause fault) before after ending

-- The engine of a call ran over a file from its beginning on. Of its bytes this may be known.
pub record IsFileRun (asked : Call) (name : List ℕ) (known : Option (List ℕ))
    (before after errors_before errors_after : WriterState) (ending : Ending) : Type 0 where
  pub left : Option (List ℕ)
  pub begins : Keeps known left
  -- the file after the run
  pub file : ReaderState
  pub answer : Result Outcome EngineFault
  pub second : Option EngineFault
  pub performed : IsPerformed asked (ports (file_opened left) before) (ports file after) answer
      second
  -- the document that the call names
  pub wanted : Option Wanted
  pub names : IfSome wanted (IsWanted asked)
  -- the end by the answer, and standard error after it
  pub first : Ending
  pub errors : WriterState
  pub ends : IsFileEnding name wanted known answer errors_before errors first
  pub lost : IsEndAfter second first errors errors_after ending

-- The engine ran over a file; or the file couldn't be opened, and then nothing is written.
abbrev pub IsFileTried : Call → List ℕ → Option (List ℕ) → WriterState → WriterState →
    WriterState → WriterState → Ending → Type 0
IsFileTried asked name known before after errors_before errors ending =
    IsFileRun asked name known before after errors_before errors ending
    ⊎ ((after ≡ before) × IsUnreadable name errors_before errors ending)

-- Does a call print only at the end of its log?
abbrev pub prints_last : Call → Bool
prints_last (call.Replay settings) = true
prints_last (call.ReplayPart settings part) = not (is_some part.at)
prints_last (call.Compare settings against) = true
prints_last asked = false

-- Such a call met a fault of its log, and then it was made on the first bytes of the file alone. Of
-- the file's bytes this may be known.
pub record IsFrontDone (asked : Call) (name : List ℕ) (known : Option (List ℕ))
    (before after errors_before errors_after : WriterState) (ending : Ending) : Type 0 where
  pub last : prints_last asked ≡ true
  -- the first end, and both outputs after it
  pub first : Ending
  pub writer : WriterState
  pub errors : WriterState
  pub tried : IsFileTried asked name known before writer errors_before errors first
  pub faulty : first.status ≡ 5
  -- how many bytes, and a copy of the call
  pub len : ℕ
  pub copy : Call
  pub same : engine_of copy ≡ engine_of asked
  pub next : Ending
  pub again : IsFileTried copy name (front_known len known) writer after errors errors_after next
  pub ends : ending ≡ both_ends first next

-- A call was made on a file, once or twice.
abbrev pub IsFileDone : Call → List ℕ → Option (List ℕ) → WriterState → WriterState →
    WriterState → WriterState → Ending → Type 0
IsFileDone asked name known before after errors_before errors ending =
    IsFileTried asked name known before after errors_before errors ending
    ⊎ IsFrontDone asked name known before after errors_before errors ending

-- ---- tasks

-- What is known of the files: of each name, the bytes of the file.
abbrev pub KnownFiles : Type 0
KnownFiles = List ℕ → Option (List ℕ)

-- A call was made on standard input; or on a file, and then standard input isn't read.
abbrev pub IsDoneOn : KnownFiles → Call → Option (List ℕ) → Streams → Streams → Ending → Type 0
IsDoneOn known asked None before after ending = IsCallDone asked before after ending
IsDoneOn known asked (Some name) before after ending = (after.reader ≡ before.reader)
    × IsFileDone asked name (known name) before.writer after.writer before.errors after.errors
    ending

-- The name of an input in its heading.
abbrev pub shown_name : Option (List ℕ) → List ℕ
shown_name name = unwrap_or name (codes "standard input")

-- Of several inputs each has a heading on standard error.
abbrev pub IsHeaded : Bool → Option (List ℕ) → WriterState → WriterState →
    Result (Unit {0}) EngineFault → Type 0
IsHeaded true name before after printed =
    IsPrinted (codes "==> " ++ (shown_name name ++ codes " <==\n")) before after printed
IsHeaded false name before after printed = (after ≡ before) × (printed ≡ Ok tt)

-- A call, once the file of its saved text was read, of whose bytes this may be known.
abbrev pub IsLoaded : KnownFiles → Call → Option (List ℕ) → Call → Type 0
IsLoaded known asked None loaded = loaded ≡ asked
IsLoaded known asked (Some name) loaded = (text : String Global)
    × IfSome (known name) (λ bytes. string_bytes text ≡ bytes) × (loaded ≡ with_text text asked)

-- A file of a saved text can't be read.
abbrev pub IsNotLoaded : Option (List ℕ) → WriterState → WriterState → Ending → Type 0
IsNotLoaded None before after ending = ⊥
IsNotLoaded (Some name) before after ending = IsUnreadable name before after ending

-- A call was made on an input; or its saved text can't be read, and then nothing else is.
abbrev pub IsDoneWith : KnownFiles → Call → Option (List ℕ) → Option (List ℕ) → Streams → Streams
    → Ending → Type 0
IsDoneWith known asked saved file before after ending =
    ((loaded : Call) × IsLoaded known asked saved loaded
    × IsDoneOn known loaded file before after ending)
    ⊎ ((after.reader ≡ before.reader) × (after.writer ≡ before.writer)
    × IsNotLoaded saved before.errors after.errors ending)

-- A task was done, after its heading. The ending has the first failure to print.
pub record IsTaskDone (known : KnownFiles) (is_headed : Bool) (task : Task) (before after : Streams)
    (ending : Ending) : Type 0 where
  -- standard error after the heading
  pub errors : WriterState
  pub heading : Result (Unit {0}) EngineFault
  pub headed : IsHeaded is_headed (file_of task) before.errors errors heading
  pub one : Ending
  pub done : IsDoneWith known task.call (saved_of task) (file_of task)
      (record before { errors = errors }) after one
  pub ends : ending ≡ record one { printed = result_and heading one.printed }

-- The end of no task.
abbrev pub nothing_yet : Ending
nothing_yet = record { status = 0; printed = Ok tt; output_failed = false }

-- Tasks were done one after another, up to one whose output failed. They end so with what ended
-- before them.
abbrev pub AreDone : KnownFiles → Bool → Ending → List Task → Streams → Streams → Ending → Type 0
AreDone known is_headed so_far [] before after ending = (after ≡ before) × (ending ≡ so_far)
AreDone known is_headed so_far (task ∷ tasks) before after ending =
    (between : Streams) × (one : Ending) × IsTaskDone known is_headed task before between one
    × (((one.output_failed ≡ true) × (after ≡ between) × (ending ≡ both_ends so_far one))
    ⊎ ((one.output_failed ≡ false)
    × AreDone known is_headed (both_ends so_far one) tasks between after ending))

-- ---- the program

-- What the program does with words that are no call. Out of memory is reported, the text of a mistake
-- is printed, with status 2, and help and the version are written.
pub record IsExplained (k : ErrorKind) (before after : Streams) (ending : Ending) : Type 0 where
  -- nothing is read
  pub reader : after.reader ≡ before.reader
  pub memory : k ≡ kind.OutOfMemory → (after.writer ≡ before.writer)
      × IsFaultEnd NoMemory before.errors after.errors ending
  pub mistake : (k ≡ kind.OutOfMemory → ⊥) → (k ≡ kind.DisplayHelp → ⊥) →
      (k ≡ kind.DisplayVersion → ⊥)
      → (after.writer ≡ before.writer) × (ending.status ≡ 2)
      × IsTextPrinted before.errors after.errors ending.printed
  pub help : (k ≡ kind.DisplayHelp) ⊎ (k ≡ kind.DisplayVersion)
      → (answer : Result (Unit {0}) EngineFault)
      × IsTextPrinted before.writer after.writer answer
      × IsHelpEnd answer before.errors after.errors ending

-- What is said of options that exclude each other.
abbrev pub contrary_text : List ℕ
contrary_text = codes "`--squash` goes neither with `--whole` nor with `--live`"

-- What the program does with words: the tasks that they are, or an explanation. Where there is none
-- of both, its options exclude each other, as a line says; the status is 2.
abbrev pub IsDone : KnownFiles → Result (Option (Vec Task Global)) Error → Streams → Streams → Ending →
    Type 0
IsDone known (Ok (Some tasks)) before after ending =
    AreDone known (nat_lt 1 (length tasks.items)) nothing_yet tasks.items before after ending
IsDone known (Ok None) before after ending = (after.reader ≡ before.reader)
    × (after.writer ≡ before.writer)
    × Ends 2 (error_line None contrary_text) false before.errors after.errors ending
IsDone known (Err error) before after ending = IsExplained (kind_of error) before after ending

-- A run of the program with these words: what they are read as, and that this is done. Of the files
-- this is known.
pub record IsProgramRun (known : KnownFiles) (words : List (List ℕ)) (before after : Streams)
    (ending : Ending) : Type 0 where
  pub read : Result (Option (Vec Task Global)) Error
  pub words_are : AreWordsReadAs words read
  pub done : IsDone known read before after ending
