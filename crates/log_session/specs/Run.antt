-- What each engine does between a reader and a writer.
use Rattle.std.specs.Prelude.{◌≡◌, ◌≢◌, ◌&&◌}
use Rattle.log_session.specs.Prelude.{ℕ, not, Bool, true, false, List, Result, Err, EngineFault, NoMemory, TooManyTurns, Write, Ports, StaysFlushed, LogRules, Record, Settings, Outcome}
use Rattle.log_session.specs.RunOutput.{RunOutput}
use Rattle.log_session.specs.Engine.{Called, FewCalls, NonePassedOver, WroteRecords, state_of}
use Rattle.log_session.specs.Settings.{as_log}
use Rattle.log_session.specs.AllRecords.{RanOver}

-- An engine, as its contract names it.
pub record Engine : Type 0 where
  -- how it reads its input
  pub log_rules : LogRules
  -- its output for the records of an input, and for the input's end
  pub run_output : List Record → RunOutput
  -- Does it pass each output on before it reads on?
  pub flushes : Bool
  -- Does it write the output of the input's end in several parts?
  pub in_parts : Bool

-- An engine that ran between a reader and a writer.
pub record IsEngineRun (engine : Engine) (max_turns : ℕ) (before after : Ports)
    (result : Result Outcome EngineFault) : Type 0 where
  -- What was written and answered, by all records that are whole in the bytes that were read.
  pub all_records : RanOver engine.log_rules engine.run_output
      (state_of before.reader.ended after.reader.ended (engine.flushes && not after.writer.flushed))
      before.reader.left after.reader.left before.writer.written after.writer.written result
  -- Where memory runs out, what was written is the output of records, each whole; `replay` may have
  -- written a part of its report.
  pub whole : engine.in_parts ≡ false → result ≡ Err NoMemory →
      WroteRecords engine.log_rules engine.run_output before.reader.left after.reader.left
      before.writer.written after.writer.written
  -- Which calls were made.
  pub called : Called before.reader.calls after.reader.calls before.writer.calls after.writer.calls
      max_turns
      after.reader.failed after.writer.failed after.reader.ended after.reader.left result
  -- How many calls were made at most.
  pub few : FewCalls before after result
  -- No failure was passed over.
  pub none_passed_over : NonePassedOver before.reader.failed after.reader.failed
      before.writer.failed after.writer.failed result
  -- After an outcome, and after each fault but those of writing and of too many turns, `serve` has
  -- flushed all that was written.
  pub all_flushed : engine.flushes ≡ true → result ≢ Err Write → result ≢ Err TooManyTurns →
      StaysFlushed before.writer.flushed after.writer.flushed

-- A command over a log of either version, with this output.
abbrev pub log_engine : Settings → (List Record → RunOutput) → Engine
log_engine settings run_output
    = record {
      log_rules = as_log settings;
      run_output = run_output;
      flushes = false;
      in_parts = false;
    }

-- The same engine. Does it pass each output on before it reads on?
abbrev pub flushing : Bool → Engine → Engine
flushing flushes engine = record engine { flushes = flushes }

-- The same engine, which does.
abbrev pub live : Engine → Engine
live engine = flushing true engine
