-- What only proofs and private contracts use of `Engine`: what an engine wrote and answered, by
-- some first records of what it read, and how far it is between two reads.
use Rattle.std.specs.Prelude.{◌≡◌, ◌≢◌, ◌⊎◌, ◌+◌, ◌≤◌, ◌<◌, ◌^◌, ◌&&◌, ◌++◌}
use Rattle.log_session.specs.Prelude.{ℕ, ⊤, not, Bool, true, List, [], length, Option, None, Result, Ok, Err, Consumes, Appends, place_after, Outcome, EngineFault, Write, NoMemory, TooManyTurns, BadLog, Two, Ports, StaysFlushed, StaysWell, LogRules, Record, Log, IsVersion, IsReadAs}
use Rattle.lsp_log.specs.Splitting.{IsAfter}
use Rattle.lsp_log.specs.declared.splitter.Splitter.{Splitter}
use Rattle.log_session.specs.declared.engine.InputRules.{InputRules}
use Rattle.lsp_stream.specs.Ports.{FewReads, FewWrites}
use Rattle.log_session.specs.RunOutput.{RunOutput, written_first}
use Rattle.log_session.specs.AllRecords.{IsObserved}
use Rattle.log_session.specs.Engine.{Called, FewCalls, NonePassedOver, PortState, state_of}

-- How an engine starts: the rules by which it reads, its output for the records of an input, what
-- the reader has left and what the writer has had.
pub record RunStart : Type 0 where
  pub log_rules : LogRules
  pub run_output : List Record → RunOutput
  pub left : Option (List ℕ)
  pub received : Option (List ℕ)

-- ---- what was written and answered

-- No record ended the run, and the output of all of these was written.
abbrev pub HasWritten : RunStart → Log → Option (List ℕ) → Type 0
HasWritten start log received_now = ((start.run_output log.records).stop ≡ None)
    × Appends start.received received_now (start.run_output log.records).out

-- Some first records of the input decide the output and the result, as all of them do.
pub record IsAnswer (start : RunStart) (state : PortState) (OnePart : Type 0) (input : List ℕ)
    (received_now : Option (List ℕ)) (result : Result Outcome EngineFault) : Type 0 where
  pub log : Log
  pub reads : IsReadAs start.log_rules input log
  pub observed : IsObserved start.log_rules state input start.received received_now log
      (start.run_output log.records) result
  -- where the end has one part, memory ran out between the outputs of two records
  pub whole : OnePart → result ≡ Err NoMemory → HasWritten start log received_now

-- Version 2 is refused, and the input is of it. Nothing was written.
pub record RefusesInput (start : RunStart) (input : List ℕ) (received_now : Option (List ℕ))
    (result : Result Outcome EngineFault) : Type 0 where
  pub refuses_two : start.log_rules.refuses_two ≡ true
  pub version : IsVersion start.log_rules.versions Two input
  pub answer : result ≡ Err (BadLog 0)
  pub wrote : Appends start.received received_now []

-- An engine ran: its output and its result are those of the bytes that it read.
pub record Ran (start : RunStart) (state : PortState) (OnePart : Type 0)
    (left_now received_now : Option (List ℕ)) (result : Result Outcome EngineFault) : Type 0 where
  pub input : List ℕ
  pub read : Consumes start.left left_now input
  pub came : IsAnswer start state OnePart input received_now result
      ⊎ RefusesInput start input received_now result

-- ---- between two reads

-- The records of the input were handled and their output written, up to the bytes `more` that are
-- still to come. `now` is the output for the records from here on.
pub record IsProgress (start : RunStart) (input more : List ℕ) (s : Splitter)
    (now : List Record → RunOutput) (received_now : Option (List ℕ)) : Type 0 where
  pub records : List Record
  pub is_after : IsAfter start.log_rules input more records s
  pub out : List ℕ
  pub outputs : (others : List Record) →
      start.run_output (records ++ others) ≡ written_first out (now others)
  pub wrote : Appends start.received received_now out

-- The same with all that was read. After the reader's end no more bytes come; until then the input
-- has its version whatever follows.
pub record Runs (start : RunStart) (left_now : Option (List ℕ)) (ended : Bool) (place : ℕ)
    (piece : List ℕ) (s : Splitter) (now : List Record → RunOutput)
    (received_now : Option (List ℕ)) : Type 0 where
  pub input : List ℕ
  pub read : Consumes start.left left_now input
  pub progress : IsProgress start input piece s now received_now
  pub placed : place ≡ place_after 0 (length input)
  pub sure : (more : List ℕ) → (ended ≡ true → more ≡ []) →
      IsVersion start.log_rules.versions s.version (input ++ more)

-- Each call of the reader and of the writer took one of the turns that were left.
pub record BothSpend
    (reads_old reads_new writes_old writes_new left_old left_new : ℕ) : Type 0 where
  pub within : left_new ≤ left_old
  pub reads : reads_old ≤ reads_new
  pub writes : writes_old ≤ writes_new
  pub most : reads_new + writes_new + left_new ≤ reads_old + writes_old + left_old
  pub exact : reads_new + 1 < 2 ^ 64 → writes_new + 1 < 2 ^ 64 →
      reads_new + writes_new + left_new ≡ reads_old + writes_old + left_old

-- The calls so far, of which none failed.
pub record CallsSoFar (flushes : Bool) (max_turns left : ℕ) (before now : Ports) : Type 0 where
  pub spent : BothSpend before.reader.calls now.reader.calls before.writer.calls now.writer.calls
      max_turns left
  pub reads_well : StaysWell before.reader.failed now.reader.failed
  pub writes_well : StaysWell before.writer.failed now.writer.failed
  pub flushed : flushes ≡ true → StaysFlushed before.writer.flushed now.writer.flushed
  pub few_reads : FewReads before.reader now.reader
  pub few_writes : FewWrites before.writer now.writer

-- ---- the end of the input

-- What each result says of the output at the end, of which some was written and some is left.
abbrev pub IsEndCause : Type 0 → Bool → Outcome → (written left : List ℕ) →
    Result Outcome EngineFault → Type 0
IsEndCause OnePart unflushed outcome written left (Ok answer) = (answer ≡ outcome) × (left ≡ [])
IsEndCause OnePart unflushed outcome written left (Err Write) = ⊤
IsEndCause OnePart unflushed outcome written left (Err NoMemory) = OnePart → written ≡ []
IsEndCause OnePart unflushed outcome written left (Err TooManyTurns) =
    (0 < length left) ⊎ (unflushed ≡ true)
IsEndCause OnePart unflushed outcome written left (Err fault) = ⊥

-- The output at the end was written, or a first part of it.
pub record IsEndWritten (OnePart : Type 0) (unflushed line_due : Bool) (output : RunOutput)
    (old new : Option (List ℕ)) (result : Result Outcome EngineFault) : Type 0 where
  pub written : List ℕ
  pub left : List ℕ
  pub is : output.last line_due ≡ written ++ left
  pub wrote : Appends old new written
  pub cause : IsEndCause OnePart unflushed output.outcome written left result

-- ---- the loop

-- How the loop reads an input, by its rules.
abbrev pub reading_by : InputRules → LogRules
reading_by rules
    = record {
      max_body = rules.limits.max_body;
      versions = rules.versions;
      refuses_two = rules.refuses_two;
    }

-- The start of a run between a reader and a writer.
abbrev pub start_at : LogRules → (List Record → RunOutput) → Ports → RunStart
start_at log_rules run_output before = record {
  log_rules = log_rules;
  run_output = run_output;
  left = before.reader.left;
  received = before.writer.written;
}

-- The loop of the engines ran between a reader and a writer. `OnePart`: has the end one part?
pub record IsLoopRun (log_rules : LogRules) (run_output : List Record → RunOutput) (flushes : Bool)
    (OnePart : Type 0) (max_turns : ℕ) (before after : Ports)
    (result : Result Outcome EngineFault) : Type 0 where
  -- What was written and answered.
  pub ran : Ran (start_at log_rules run_output before)
      (state_of before.reader.ended after.reader.ended (flushes && not after.writer.flushed))
      OnePart after.reader.left after.writer.written result
  -- Which calls were made.
  pub called : Called before.reader.calls after.reader.calls before.writer.calls after.writer.calls
      max_turns
      after.reader.failed after.writer.failed after.reader.ended after.reader.left result
  -- How many calls were made at most.
  pub few : FewCalls before after result
  -- No failure was passed over.
  pub none_passed_over : NonePassedOver before.reader.failed after.reader.failed
      before.writer.failed after.writer.failed result
  -- Where each output is flushed before more is read: after an outcome, and after each fault but
  -- those of writing and of too many turns, all that was written is flushed.
  pub all_flushed : flushes ≡ true → result ≢ Err Write → result ≢ Err TooManyTurns →
      StaysFlushed before.writer.flushed after.writer.flushed
