-- The calls of a run, and the loop's end by its last call.
use Rattle.log_session.proofs.Prelude.{Bool, List, ap, arith, false, not, refl, sym, true, ℕ, ◌&&◌, ◌||◌, ◌≡◌, ◌≢◌, ◌≤◌, eqb-true, common_steps, IsAtEnd, Err, IfErr, Ok, Result, nat_eq, LogRules, Record, state_of, RunOutput, Outcome, BothSpend, CallsSoFar, IsLoopRun, Ran, start_at, FewReads, Ports, ReaderState, Rose, WriterState, ports, ReadsWithin, Spends, WritesFew, WritesWithin, LeavesFlushed, EngineFault, BadLog, Read, TooManyTurns, Write}

-- ---- the calls of the reader and of the writer

pub rose_more : (old now new : ℕ) → old ≤ now → Rose now new → Rose old new
rose_more old now new more rose = λ room. omega (arith, rose room)

pub calls_none : {flushes : Bool} {max_turns turns : ℕ} {before : Ports} → turns ≡ max_turns
    → CallsSoFar flushes max_turns turns before before
calls_none is = grind (arith, common_steps)

module _ {flushes : Bool} {max_turns turns : ℕ} {before now : Ports}
    (so_far : CallsSoFar flushes max_turns turns before now) where
  spent_writes : {left calls : ℕ} → Spends now.writer.calls calls turns left
      → BothSpend before.reader.calls now.reader.calls before.writer.calls calls max_turns left
  spent_writes more = grind (arith, common_steps)

  spent_reads : {left calls : ℕ} → Spends now.reader.calls calls turns left
      → BothSpend before.reader.calls calls before.writer.calls now.writer.calls max_turns left
  spent_reads more = grind (arith, common_steps)

  pub calls_wrote : {A : Type 0} {t : A} {left : ℕ} {after : WriterState}
      → WritesWithin turns left now.writer after (Ok t)
      → WritesFew now.writer after (Ok t) → LeavesFlushed flushes now.writer after (Ok t)
      → CallsSoFar flushes max_turns left before (ports now.reader after)
  calls_wrote calls few flushed = grind (arith, common_steps, spent_writes)

  -- more reads, where the last one wasn't at the end
  pub reads_more : {after : ReaderState} → now.reader.ended ≡ false → FewReads now.reader after
      → FewReads before.reader after
  reads_more goes_on more = grind (arith, common_steps)

  pub calls_read : {A : Type 0} {t : A} {left : ℕ} {after : ReaderState}
      → ReadsWithin turns left now.reader after (Ok t)
      → FewReads before.reader after → CallsSoFar flushes max_turns left before (ports after now.writer)
  calls_read calls few = grind (arith, common_steps, spent_reads)

-- ---- the loop's end

module _ {log_rules : LogRules} {run_output : List Record → RunOutput} {flushes : Bool} {OnePart : Type 0}
    {max_turns turns : ℕ} {before now : Ports} (so_far : CallsSoFar flushes max_turns turns before now) where
  -- after the calls so far
  loop_end : (result : Result Outcome EngineFault) → result ≢ Err Read → result ≢ Err Write
      → result ≢ Err TooManyTurns
      → (now.reader.ended ≡ true → IsAtEnd now.reader.left × Rose before.reader.calls now.reader.calls)
      → Ran (start_at log_rules run_output before)
      (state_of before.reader.ended now.reader.ended (flushes && not now.writer.flushed)) OnePart now.reader.left
      now.writer.written result → IsLoopRun log_rules run_output flushes OnePart max_turns before now result
  loop_end result not_read not_write not_turns at_end ran = grind (arith, common_steps)

  pub loop_ok : (outcome : Outcome)
      → (now.reader.ended ≡ true → IsAtEnd now.reader.left × Rose before.reader.calls now.reader.calls)
      → Ran (start_at log_rules run_output before)
      (state_of before.reader.ended now.reader.ended (flushes && not now.writer.flushed)) OnePart now.reader.left
      now.writer.written (Ok outcome)
      → IsLoopRun log_rules run_output flushes OnePart max_turns before now (Ok outcome)
  loop_ok outcome = loop_end (Ok outcome) (λ is. absurd (cc)) (λ is. absurd (cc)) (λ is. absurd (cc))

  pub loop_bad : (place : ℕ)
      → (now.reader.ended ≡ true → IsAtEnd now.reader.left × Rose before.reader.calls now.reader.calls)
      → Ran (start_at log_rules run_output before)
      (state_of before.reader.ended now.reader.ended (flushes && not now.writer.flushed)) OnePart now.reader.left
      now.writer.written (Err (BadLog place))
      → IsLoopRun log_rules run_output flushes OnePart max_turns before now (Err (BadLog place))
  loop_bad place = loop_end (Err (BadLog place)) (λ is. absurd (cc)) (λ is. absurd (cc)) (λ is. absurd (cc))

  -- after a write failed
  pub loop_write_fault : {A : Type 0} {left : ℕ} {after : WriterState} (fault : EngineFault) → fault ≢ Read
      → WritesWithin {A = A} turns left now.writer after (Err fault) → WritesFew {A = A} now.writer after (Err fault)
      → LeavesFlushed {A = A} flushes now.writer after (Err fault)
      → (now.reader.ended ≡ true → IsAtEnd now.reader.left × Rose before.reader.calls now.reader.calls)
      → Ran (start_at log_rules run_output before)
      (state_of before.reader.ended now.reader.ended (flushes && not after.flushed)) OnePart now.reader.left
      after.written (Err fault)
      → IsLoopRun log_rules run_output flushes OnePart max_turns before (ports now.reader after) (Err fault)
  loop_write_fault fault not_read calls few flushed at_end ran =
      grind (arith, common_steps, (spent_writes so_far calls.spent))

  -- after a read failed
  pub loop_read_fault : {A : Type 0} {left : ℕ} {after : ReaderState} (fault : EngineFault)
      → ReadsWithin {A = A} turns left now.reader after (Err fault) → FewReads before.reader after
      → Ran (start_at log_rules run_output before)
      (state_of before.reader.ended after.ended (flushes && not now.writer.flushed)) OnePart after.left
      now.writer.written (Err fault)
      → IsLoopRun log_rules run_output flushes OnePart max_turns before (ports after now.writer) (Err fault)
  loop_read_fault fault calls few ran = grind (arith, common_steps, (spent_reads so_far calls.spent))

-- after the last write
pub loop_write : {log_rules : LogRules} {run_output : List Record → RunOutput} {flushes : Bool} {OnePart : Type 0}
    {max_turns turns : ℕ} {before now : Ports} → CallsSoFar flushes max_turns turns before now → {left : ℕ}
    {after : WriterState} (result : Result Outcome EngineFault)
    → IfErr result (λ fault. fault ≢ Read)
    → WritesWithin turns left now.writer after result → WritesFew now.writer after result
    → LeavesFlushed flushes now.writer after result
    → (now.reader.ended ≡ true → IsAtEnd now.reader.left × Rose before.reader.calls now.reader.calls)
    → Ran (start_at log_rules run_output before)
    (state_of before.reader.ended now.reader.ended (flushes && not after.flushed)) OnePart now.reader.left
    after.written result
    → IsLoopRun log_rules run_output flushes OnePart max_turns before (ports now.reader after) result
loop_write so_far (Err fault) not_read calls few flushed at_end ran =
    loop_write_fault so_far fault not_read calls few flushed at_end ran
loop_write so_far (Ok outcome) not_read calls few flushed at_end ran =
    loop_ok (calls_wrote so_far calls few flushed) outcome at_end ran

-- ---- numbers and tests

-- more of the turns
pub spends_more : {calls_old calls_mid calls_new left_old left_mid left_new : ℕ}
    → Spends calls_old calls_mid left_old left_mid → Spends calls_mid calls_new left_mid left_new
    → Spends calls_old calls_new left_old left_new
spends_more some more = grind (arith, common_steps)

-- a test of a number
pub n_is_zero : (n : ℕ) → n ≡ 0 → nat_eq n 0 ≡ true
n_is_zero n is = ap (λ k. nat_eq k 0) is

pub zero_is : (n : ℕ) → nat_eq n 0 ≡ true → n ≡ 0
zero_is n is = eqb-true n 0 is

-- A read after all was flushed notes nothing.
pub in_time : (early flushed : Bool) → flushed ≡ true → (early || not flushed) ≡ early
in_time false false is = sym is
in_time _ _ is = refl
