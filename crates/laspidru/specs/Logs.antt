-- A command on a log that C asks for, and the result that C gets.
use Rattle.std.specs.Prelude.{◌+◌, ◌-◌, ◌*◌, ◌^◌, ◌≡◌, ◌≢◌, ◌||◌, if◌then◌else◌}
use Rattle.laspidru.specs.Prelude.{ok_or, ℕ, not, nat_eq, Bool, true, false, List, [], length, option_map, string_bytes, Option, Some, None, Result, Ok, Err, FrameFault, BAD_FRAME, BAD_LOG, BODY_TOO_LONG, CUT, NOT_OPEN, OK, OTHER_KIND, OUT_OF_MEMORY, OUT_OF_RANGE, Object, Output, and_then}
use Rattle.line_diff.specs.Comparison.{new_comparison}
use Rattle.lsp_stream.specs.declared.fault.EngineFault.{EngineFault}
use Rattle.lsp_stream.specs.declared.fault.EngineFault.TheVariants.{Frame, Truncated, BodyTooLong, TooManyTurns, BadLog}
use Rattle.lsp_stream.specs.Ports.{Ports}
use Rattle.log_session.specs.declared.settings.Settings.{Settings}
use Rattle.log_rewrite.specs.declared.commands.part.Part.{Part}
use Rattle.log_session.specs.declared.outcome.Missing.{Missing}
use Rattle.log_session.specs.declared.outcome.Missing.TheVariants as missing
use Rattle.log_session.specs.declared.outcome.Outcome.{Outcome}
use Rattle.log_report.specs.Compare.{compare_engine}
use Rattle.log_rewrite.specs.Documents.{WritesDocuments, documents_engine}
use Rattle.log_report.specs.Explain.{explain_engine}
use Rattle.log_rewrite.specs.Part.{part_engine}
use Rattle.log_session.specs.Run.{Engine, IsEngineRun}
use Rattle.log_rewrite.specs.laws.Written.{WritesLog}
use Rattle.log_report.specs.Check.{check_engine}
use Rattle.log_rewrite.specs.Convert.{convert_engine}
use Rattle.log_rewrite.specs.Squash.{normalise_engine}
use Rattle.log_session.specs.Replay.{replay_engine}
use Rattle.log_report.specs.Trace.{trace_engine}
use Rattle.log_rewrite.specs.laws.Written.{IsConverted, IsCanonicalLog, IsSquashed}
use Rattle.laspidru.specs.declared.command.Command.{Command}
use Rattle.laspidru.specs.declared.command.Command.TheVariants as command
use Rattle.laspidru.specs.declared.command.CommandName.{CommandName}
use Rattle.laspidru.specs.declared.command.CommandName.TheVariants.{Check, Explain, Trace, Replay, Normalise, Convert}
use Rattle.laspidru.specs.declared.endings.Ending.{Ending}
use Rattle.laspidru.specs.declared.endings.LogSettings.{LogSettings}
use Rattle.laspidru.specs.Framers.{number_and_offset}
use Rattle.laspidru.specs.Objects.{encoding_at, in_handle, uri_asked}
use Rattle.laspidru.specs.Servers.{limits_asked}

-- ---- how a log is read

-- The settings of a log, if the encoding is known and each limit is in its range.
abbrev pub log_asked : LogSettings → Result Settings ℕ
log_asked settings = and_then (encoding_at settings.encoding) (λ encoding.
    and_then (limits_asked settings.max_body settings.max_text settings.max_docs
    settings.max_changes settings.lenient) (λ limits. Ok (record {
      limits = limits;
      encoding = encoding;
      squash = settings.squash;
    })))

-- ---- which command

-- The command of a number.
abbrev pub name_numbered : ℕ → Option CommandName
name_numbered number =
    if nat_eq number 0 then Some Check
    else if nat_eq number 1 then Some Explain
    else if nat_eq number 2 then Some Trace
    else if nat_eq number 3 then Some Replay
    else if nat_eq number 4 then Some Normalise
    else if nat_eq number 5 then Some Convert
    else None

-- A command that C asks for: its name, the URI, and how the log is read.
pub record RunAsked : Type 0 where
  pub name : CommandName
  pub uri : List ℕ
  pub settings : Settings

-- The same as C passes it, or the code of its refusal.
abbrev pub run_asked : ℕ → LogSettings → List ℕ → Result RunAsked ℕ
run_asked number settings uri =
    and_then (ok_or (name_numbered number) OUT_OF_RANGE) (λ name. and_then (uri_asked uri)
    (λ named. and_then (log_asked settings) (λ taken.
    Ok (record { name = name; uri = named; settings = taken }))))

-- A comparison as C passes it: how the document's URI ends, the saved text, and how the log is read.
abbrev pub comparison_asked : LogSettings → List ℕ → List ℕ → Result (Command × Settings) ℕ
comparison_asked settings uri saved =
    and_then (uri_asked uri) (λ ending. and_then (uri_asked saved) (λ text.
    and_then (log_asked settings) (λ taken.
    Ok (command.Compare (new_comparison ending text), taken))))

-- The part of a log that is replayed: the number of the last record that is read, none for all; and
-- the URI of the one document that is written, if any.
pub record IsAskedPart (settings : LogSettings) (uri : List ℕ) (part : Part) : Type 0 where
  pub at : part.at ≡ (if nat_eq settings.at 0 then None else Some settings.at)
  pub uri_of : option_map string_bytes part.uri ≡ (if settings.has_uri then Some uri else None)

-- `replay` is of the whole log, or of a part of it.
abbrev pub IsReplay : LogSettings → List ℕ → Command → Type 0
IsReplay settings uri command.Replay = (settings.at ≡ 0) × (settings.has_uri ≡ false)
IsReplay settings uri (command.ReplayPart part) =
    ((not (nat_eq settings.at 0) || settings.has_uri) ≡ true) × IsAskedPart settings uri part
IsReplay settings uri other = ⊥

-- The command of a name, with what the settings have of it. `normalise` is of all records, or of
-- those about the session and the documents' texts.
abbrev pub IsCommand : CommandName → LogSettings → List ℕ → Command → Type 0
IsCommand Check settings uri it = it ≡ command.Check
IsCommand Explain settings uri it =
    it ≡ command.Explain (record { brief = settings.brief; all = settings.all })
IsCommand Trace settings uri it =
    it ≡ command.Trace (record { texts = settings.texts; bodies = settings.bodies })
IsCommand Replay settings uri it = IsReplay settings uri it
IsCommand Normalise settings uri it =
    it ≡ (if settings.documents then command.NormaliseDocuments else command.Normalise)
IsCommand Convert settings uri it = it ≡ command.Convert

-- ---- what a command does

-- The engine of a command.
abbrev pub command_engine : Command → Settings → Engine
command_engine command.Check settings = check_engine settings
command_engine (command.Explain listing) settings = explain_engine settings listing
command_engine (command.Trace details) settings = trace_engine settings details
command_engine command.Replay settings = replay_engine settings
command_engine (command.ReplayPart part) settings = part_engine settings part
command_engine command.Normalise settings = normalise_engine settings
command_engine command.NormaliseDocuments settings = documents_engine settings
command_engine command.Convert settings = convert_engine settings
command_engine (command.Compare comparison) settings = compare_engine settings comparison

-- What `normalise` and `convert` write of a log is a log again, of which `replay` reports the same.
abbrev pub IsLawful : Command → Settings → Ports → Ports → Result Outcome EngineFault → Type 0
IsLawful command.Normalise settings before after answer =
    (settings.squash ≡ false → WritesLog settings (IsCanonicalLog settings) before after answer)
    × (settings.squash ≡ true → WritesLog settings (IsSquashed settings) before after answer)
IsLawful command.NormaliseDocuments settings before after answer =
    WritesDocuments settings before after answer
IsLawful command.Convert settings before after answer =
    WritesLog settings (IsConverted settings) before after answer
IsLawful other settings before after answer = Unit {0}

-- How many reads and writes a command may make: more aren't counted.
abbrev pub command_turns : ℕ
command_turns = 18446744073709551615

-- How many more writes and flushes an output of so many bytes can take, flushed or not. It has at
-- most 2^61 bytes.
abbrev pub writes_left : ℕ → Bool → ℕ
writes_left len flushed = 2 * (2 ^ 61 - len) + (if flushed then 0 else 1)

-- A log in memory, of which no read fails, and its output in memory.
abbrev pub log_ports : (left : List ℕ) (reads : ℕ) (ended : Bool) (written : List ℕ)
    (failed : Bool) (writes : ℕ) (flushed : Bool) → Ports
log_ports left reads ended written failed writes flushed = record {
  reader = record {
    left = Some left;
    failed = false;
    calls = reads;
    calls_left = length left;
    ended = ended;
  };
  writer = record {
    written = Some written;
    failed = failed;
    calls = writes;
    calls_left = writes_left (length written) flushed;
    flushed = flushed;
  };
}

-- A command ran from the first byte of a log, with this output and this result.
pub record RanOn (it : Command) (settings : Settings) (log output : List ℕ)
    (answer : Result Outcome EngineFault) : Type 0 where
  pub left : List ℕ
  pub reads : ℕ
  -- Did it come to the end of the log?
  pub ended : Bool
  pub failed : Bool
  pub writes : ℕ
  pub flushed : Bool
  pub ran : IsEngineRun (command_engine it settings) command_turns
      (log_ports log 0 false [] false 0 true)
      (log_ports left reads ended output failed writes flushed) answer
  pub lawful : IsLawful it settings (log_ports log 0 false [] false 0 true)
      (log_ports left reads ended output failed writes flushed) answer
  -- As many reads and writes as it needs are allowed.
  pub enough : answer ≢ Err TooManyTurns

-- ---- the result that C gets

-- What the log lacks of what was asked for, as a code; 0 if nothing is missing.
abbrev pub missing_code : Option Missing → ℕ
missing_code None = 0
missing_code (Some missing.Record) = OUT_OF_RANGE
missing_code (Some missing.Document) = NOT_OPEN

-- The ending of a command at a fault, with the fault's byte offset.
abbrev pub fault_out : ℕ → ℕ → Ending
fault_out len offset = record {
  status = 0;
  frame = 0;
  missing = 0;
  messages = 0;
  refused = 0;
  offset = offset;
  output_len = len;
}

-- The ending of a command that came to an outcome, with so many bytes of output.
abbrev pub outcome_out : ℕ → Outcome → Ending
outcome_out len outcome = record (fault_out len 0) {
  status = outcome.status;
  missing = missing_code outcome.missing;
  messages = outcome.messages;
  refused = outcome.refused;
}

-- The ending of a command at a faulty frame. F1 to F7 have a byte offset; F8 and F9 aren't faults
-- of a log.
abbrev pub frame_fault_out : ℕ → FrameFault → Ending
frame_fault_out len fault =
    record (fault_out len (number_and_offset fault).1) { frame = (number_and_offset fault).0 }

-- The code of a result, and the ending. After a fault that isn't the log's there is only a code.
abbrev pub ending_out : ℕ → Result Outcome EngineFault → Result (ℕ × Ending) ℕ
ending_out len (Ok outcome) = Ok (OK, outcome_out len outcome)
ending_out len (Err (Frame fault)) = Ok (BAD_FRAME, frame_fault_out len fault)
ending_out len (Err (Truncated place)) = Ok (CUT, fault_out len place)
ending_out len (Err (BodyTooLong place)) = Ok (BODY_TOO_LONG, fault_out len place)
ending_out len (Err (BadLog place)) = Ok (BAD_LOG, fault_out len place)
ending_out len (Err fault) = Err OUT_OF_MEMORY

-- This holds, unless the code is of an outcome or of a fault of the log.
abbrev pub IsUnlessEnded : ℕ → Type 0 → Type 0
IsUnlessEnded code Fact = code ≢ OK → code ≢ CUT → code ≢ BAD_FRAME → code ≢ BODY_TOO_LONG →
    code ≢ BAD_LOG → Fact

-- The output of a command.
abbrev pub as_output : Object → Result (List ℕ) ℕ
as_output (Output bytes) = Ok bytes.items
as_output other = Err OTHER_KIND

-- The handle has the output, and C gets the code and the ending; or only the code.
abbrev pub IsKept : Result (ℕ × Ending) ℕ → List ℕ → ℕ → Option Object → Ending → Type 0
IsKept (Ok ended) output code stored out = (code ≡ ended.0)
    × (in_handle as_output stored ≡ Ok output) × (out ≡ ended.1)
IsKept (Err fault) output code stored out = code ≡ fault

-- A command ran over a log: C gets its result, and the handle has its output.
pub record IsKeptRun (it : Command) (settings : Settings) (log : List ℕ) (code : ℕ)
    (stored : Option Object) (out : Ending) : Type 0 where
  pub output : List ℕ
  pub answer : Result Outcome EngineFault
  pub ran : RanOn it settings log output answer
  pub ended : IsKept (ending_out (length output) answer) output code stored out

-- The same of the command of a name.
pub record IsCommandRun (asked : RunAsked) (settings : LogSettings) (log : List ℕ) (code : ℕ)
    (stored : Option Object) (out : Ending) : Type 0 where
  pub it : Command
  pub is : IsCommand asked.name settings asked.uri it
  pub run : IsKeptRun it asked.settings log code stored out
