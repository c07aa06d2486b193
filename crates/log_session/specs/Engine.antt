-- What an engine wrote of a log, and which calls it made.
use Rattle.std.specs.Prelude.{◌≡◌, ◌≢◌, ◌+◌, ◌≤◌, ◌<◌, ◌^◌, ◌++◌}
use Rattle.log_session.specs.Prelude.{ℕ, Bool, true, List, Option, None, Result, Err, Consumes, Appends, IsAtEnd, Outcome, EngineFault, Read, Write, TooManyTurns, Ports, Rose, StaysWell, LogRules, Record, Log, IsReadAs, is_line_due}
use Rattle.log_session.specs.RunOutput.{RunOutput}

-- The output at the end of the input, after the records of a log.
abbrev pub last_of : (List Record → RunOutput) → Log → List ℕ
last_of run_output log = (run_output log.records).last (is_line_due log.version log.records)

-- All that an engine writes for a log that is records and nothing else.
abbrev pub all_of : (List Record → RunOutput) → Log → List ℕ
all_of run_output log = (run_output log.records).out ++ last_of run_output log

-- What the reader and the writer report of themselves.
pub record PortState : Type 0 where
  -- was the reader at its end before the run?
  pub ended_before : Bool
  -- is it now?
  pub ended : Bool
  -- is output still to be flushed?
  pub unflushed : Bool

-- The three reports as a record.
abbrev pub state_of : Bool → Bool → Bool → PortState
state_of ended_before ended unflushed
    = record { ended_before = ended_before; ended = ended; unflushed = unflushed }

-- What was written is the output of some first records of what was read, each complete, and nothing
-- more.
pub record WroteRecords (log_rules : LogRules) (run_output : List Record → RunOutput)
    (left_old left_new received_old received_new : Option (List ℕ)) : Type 0 where
  pub input : List ℕ
  pub read : Consumes left_old left_new input
  pub log : Log
  pub reads : IsReadAs log_rules input log
  pub continues : (run_output log.records).stop ≡ None
  pub wrote : Appends received_old received_new (run_output log.records).out

-- Which calls the reader and the writer had.
pub record Called (reads_old reads_new writes_old writes_new allowed : ℕ)
    (read_failed write_failed ended : Bool) (left : Option (List ℕ))
    (result : Result Outcome EngineFault) : Type 0 where
  -- at most as many calls as allowed
  pub turns : reads_new + writes_new ≤ reads_old + writes_old + allowed
  -- after `TooManyTurns` as many as allowed
  pub too_many : result ≡ Err TooManyTurns → reads_new + 1 < 2 ^ 64 → writes_new + 1 < 2 ^ 64 →
      reads_new + writes_new ≡ reads_old + writes_old + allowed
  -- after `Read` the last read failed
  pub read_fault : result ≡ Err Read → (read_failed ≡ true) × Rose reads_old reads_new
  -- after `Write` the last write or flush failed
  pub write_fault : result ≡ Err Write → (write_failed ≡ true) × Rose writes_old writes_new
  -- unless too many turns were needed: if the reader reports its end, no byte is left, and a read
  -- was made
  pub at_end : result ≢ Err TooManyTurns → ended ≡ true → IsAtEnd left × Rose reads_old reads_new

-- No failure was passed over. If the last read failed, the result is `Read`; if the last write or
-- flush failed, it is `Write`. A failure from before the run doesn't count.
pub record NonePassedOver (read_failed_old read_failed_new write_failed_old write_failed_new : Bool)
    (result : Result Outcome EngineFault) : Type 0 where
  pub reads : result ≢ Err Read → StaysWell read_failed_old read_failed_new
  pub writes : result ≢ Err Write → StaysWell write_failed_old write_failed_new

-- How many calls were made, by how many the reader and the writer had left.
pub record FewCalls (before after : Ports) (result : Result Outcome EngineFault) : Type 0 where
  -- no more reads than were left, and one at the end
  pub reads : after.reader.calls ≤ before.reader.calls + before.reader.calls_left + 1
  -- no more writes and flushes than were left, unless one failed
  pub writes : result ≢ Err Write →
      after.writer.calls ≤ before.writer.calls + before.writer.calls_left
