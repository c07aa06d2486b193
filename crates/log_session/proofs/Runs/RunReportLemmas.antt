-- What an engine wrote and answered is told by all the records that are whole in the bytes that it read.
use Rattle.log_session.proofs.Prelude.{Bool, List, None, Option, Some, [], ap, append-nil, append_assoc, ap₂, arith, drop, false, inl, inr, refl, subst, sym, true, ℕ, ⊎_elim, ◌++◌, ◌∙◌, ◌∷◌, ◌≡◌, ◌≢◌, length-append, Err, Ok, Result, FrameFault, first_byte, first_of, same_version, HasNoRecord, IsBadMark, IsMalformed, IsReadAs, IsVersion, Log, LogRules, Record, mark_of, Sender, Client, Server, Version, One, Two, IsFirstOf, IsCause, IsObserved, RanOver, is_cut_off, last_if, View, followed_by, output_in, PortState, WroteRecords, last_of, IsEngineRun, RunOutput, written_first, Session, judge, Outcome, IsAnswer, IsLoopRun, Ran, RefusesInput, RunStart, start_at, Ports, EngineFault, BadLog, BodyTooLong, Frame, NoMemory, Read, TooManyTurns, Truncated}
use Rattle.lsp_frame.proofs.FramedLemmas.{same_frame}
use Rattle.log_session.proofs.Runs.AnswerLemmas.{none_or_whole, stopped_none}
use Rattle.log_session.proofs.Runs.ProgressLemmas.{empty_rest}

-- ---- outputs: a record that ended a run ends it whatever follows, and more records give more output

-- The output of some records, and that of these and of more.
pub record Extends (c longer : RunOutput) : Type 0 where
  pub rest : List ℕ
  pub grows : longer.out ≡ c.out ++ rest
  pub settles : (answer : Result Outcome EngineFault) → c.stop ≡ Some answer → longer ≡ c
  pub silent : (answer : Result Outcome EngineFault) → c.stop ≡ Some answer → (line_due : Bool) → c.last line_due ≡ []

abbrev pub ExtendsAll : (List Record → RunOutput) → Type 0
ExtendsAll run_output = (rs more : List Record) → Extends (run_output rs) (run_output (rs ++ more))

extends_on : (out : List ℕ) (end : Option (Result Outcome EngineFault)) (c longer : RunOutput) → Extends c longer
    → Extends (followed_by out end c) (followed_by out end longer)
extends_on out None c longer more = record {
  rest = more.rest;
  grows = ap (λ z. out ++ z) more.grows ∙ sym (append_assoc out c.out more.rest);
  settles = λ answer e. ap (written_first out) (more.settles answer e);
  silent = more.silent;
}
extends_on out (Some answer) c longer more =
    record { rest = []; grows = sym (append-nil out); settles = λ _ _. refl; silent = λ _ _ _. refl }

pub extends : {State : Type 0} (view : View State) (state : State) (s : Session) (rs more : List Record)
    → Extends (output_in view state s rs) (output_in view state s (rs ++ more))
extends view state s [] more = record {
  rest = (output_in view state s more).out;
  grows = refl;
  settles = λ answer e. absurd (let wrong : None ≡ Some answer = e in cc);
  silent = λ answer e. absurd (let wrong : None ≡ Some answer = e in cc);
}
extends view state s (r ∷ rs) more =
    let given = view.record_output state s r (judge s r) in
    extends_on given.out given.end _ _ (extends view (view.next state s r (judge s r)) (judge s r).session rs more)

-- ---- rests that no record begins

behind_marks : (version : Version) (side other : Sender) (a b : List ℕ) → mark_of version side ++ a
    ≡ mark_of version other ++ b → a ≡ b
behind_marks One side other a b e = e
behind_marks Two Client Client a b e = ap (drop 1) e
behind_marks Two Server Server a b e = ap (drop 1) e
behind_marks Two _ _ a b e = ap (drop 1) e

malformed_rest : (max_body : ℕ) (input : List ℕ) (fault : FrameFault) (log : Log) → IsMalformed max_body input fault log
    → HasNoRecord max_body log
malformed_rest max_body input fault log is side raw body more is_frame_of e =
    is.hopeless [] raw body more is_frame_of (append-nil is.part ∙ behind_marks log.version is.side side is.part
    (raw ++ more) (sym is.is ∙ e))

bad_marks : (version : Version) (side : Sender) (byte : ℕ) (a b : List ℕ) → version ≡ Two → byte ≢ 62 → byte ≢ 60
    → byte ∷ a ≡ mark_of version side ++ b → ⊥
bad_marks One side byte a b two client server e = absurd (cc)
bad_marks Two Client byte a b two client server e = client (first_byte byte 62 a b e)
bad_marks Two Server byte a b two client server e = server (first_byte byte 60 a b e)

bad_rest : (max_body : ℕ) (input : List ℕ) (place : ℕ) (log : Log) → IsBadMark input place log
    → HasNoRecord max_body log
bad_rest max_body input place log is side raw body more is_frame_of e =
    bad_marks log.version side is.byte is.more (raw ++ more) is.version is.not_client is.not_server (sym is.is ∙ e)

-- ---- from some records to all

module _ (run_output : List Record → RunOutput) (extends_all : ExtendsAll run_output) (log_rules : LogRules)
    (state : PortState) (input : List ℕ) (old new : Option (List ℕ)) (log all : Log)
    (f : IsFirstOf log_rules log all) where
  abbrev Seen : Log → Result Outcome EngineFault → Type 0
  Seen l result = IsObserved log_rules state input old new l (run_output l.records) result

  abbrev due : Log → List ℕ
  due l = last_if state.ended l.rest (run_output l.records).stop (last_of run_output l)

  -- no more records follow
  of_same : (result : Result Outcome EngineFault) → Seen log result → HasNoRecord log_rules.max_body log
      → Seen all result
  of_same result seen none = subst (λ (l : Log). Seen l result) (f.same none) seen

  -- a record ended the run
  of_stopped : (result answer : Result Outcome EngineFault) → Seen log result
      → (run_output log.records).stop ≡ Some answer
      → ((written left : List ℕ) → (run_output all.records).stop ≡ Some answer
      → IsCause log_rules state input all (run_output all.records) written left result) → Seen all result
  of_stopped result answer seen stops cause =
      let same : run_output all.records ≡ run_output log.records =
      ap run_output f.all_are ∙ (extends_all log.records f.more).settles answer stops in
      let stops_all : (run_output all.records).stop ≡ Some answer = ap (λ (c : RunOutput). c.stop) same ∙ stops in
      record {
        written = seen.written;
        left = seen.left;
        is = ap₂ (λ (a b : List ℕ). a ++ b) (ap (λ (c : RunOutput). c.out) same)
            (stopped_none (last_of run_output all) state.ended all.rest (run_output all.records).stop answer stops_all
            ∙ sym (stopped_none (last_of run_output log) state.ended log.rest (run_output log.records).stop answer
            stops)) ∙ seen.is;
        wrote = seen.wrote;
        whole = seen.whole;
        cause = cause seen.written seen.left stops_all;
      }

  -- some is unwritten
  of_cut : (result : Result Outcome EngineFault) → is_cut_off result ≡ true → (seen : Seen log result)
      → ((more : List ℕ) → IsCause log_rules state input all (run_output all.records) seen.written (seen.left ++ more)
      result) → Seen all result
  of_cut result cut seen cause =
      ⊎_elim
      (λ (none : due log ≡ []).
      let more = extends_all log.records f.more in
      let out : (run_output log.records).out ≡ seen.written ++ seen.left =
      sym (append-nil (run_output log.records).out) ∙ sym (ap (λ z. (run_output log.records).out ++ z) none)
      ∙ seen.is in
      let longer : (run_output all.records).out ≡ (seen.written ++ seen.left) ++ more.rest =
      ap (λ rs. (run_output rs).out) f.all_are ∙ more.grows ∙ ap (λ z. z ++ more.rest) out in
      record {
        written = seen.written;
        left = seen.left ++ (more.rest ++ due all);
        is = ap (λ z. z ++ due all) longer ∙ simp append_assoc;
        wrote = seen.wrote;
        whole = λ whole. absurd (let wrong : true ≡ false = sym cut ∙ whole in cc);
        cause = cause (more.rest ++ due all);
      })
      (λ (nothing : log.rest ≡ []). of_same result seen (empty_rest log_rules.max_body log nothing))
      (none_or_whole (last_of run_output log) state.ended log.rest (run_output log.records).stop)

  by_cause : (result : Result Outcome EngineFault) (seen : Seen log result)
      → IsCause log_rules state input log (run_output log.records) seen.written seen.left result → Seen all result
  by_cause (Ok outcome) seen (inl stops) = of_stopped (Ok outcome) (Ok outcome) seen stops (λ _ _ e. inl e)
  by_cause (Ok outcome) seen (inr at) = of_same (Ok outcome) seen (empty_rest log_rules.max_body log at.1)
  by_cause (Err Read) seen why = of_same (Err Read) seen why.2.none
  by_cause (Err (Frame fault)) seen why =
      of_same (Err (Frame fault)) seen (malformed_rest log_rules.max_body input fault log why.1)
  by_cause (Err (Truncated place)) seen why = of_same (Err (Truncated place)) seen why.3.none
  by_cause (Err (BodyTooLong place)) seen stops =
      of_stopped (Err (BodyTooLong place)) (Err (BodyTooLong place)) seen stops (λ _ _ e. e)
  by_cause (Err (BadLog place)) seen (inl stops) =
      of_stopped (Err (BadLog place)) (Err (BadLog place)) seen stops (λ _ _ e. inl e)
  by_cause (Err (BadLog place)) seen (inr why) =
      of_same (Err (BadLog place)) seen (bad_rest log_rules.max_body input place log why.1)
  by_cause (Err TooManyTurns) seen (inl long) =
      of_cut (Err TooManyTurns) refl seen (λ more. inl (omega (arith, long, length-append seen.left more)))
  by_cause (Err TooManyTurns) seen (inr (inl unflushed)) =
      of_cut (Err TooManyTurns) refl seen (λ more. inr (inl unflushed))
  by_cause (Err TooManyTurns) seen (inr (inr why)) = of_same (Err TooManyTurns) seen why.3.none
  by_cause (Err fault) seen why = of_cut (Err fault) refl seen (λ more. tt)

-- ---- what the contract of an engine says, from what the loop does

module _ (start : RunStart) (extends_all : ExtendsAll start.run_output) {state : PortState} {OnePart : Type 0}
    {left_now received_now : Option (List ℕ)} {result : Result Outcome EngineFault}
    (ran : Ran start state OnePart left_now received_now result) where
  -- an input of version 2, where that is refused, has no records
  not_both : (log : Log) → IsReadAs start.log_rules ran.input log → start.log_rules.refuses_two ≡ true
      → IsVersion start.log_rules.versions Two ran.input → ⊥
  not_both log reads refuses_two two = let one : Two ≡ One =
      same_version start.log_rules.versions Two log.version ran.input two reads.version
      ∙ reads.accepted refuses_two in cc

  over_all : RanOver start.log_rules start.run_output state start.left left_now start.received received_now result
  over_all = record {
    input = ran.input;
    read = ran.read;
    reported = λ all reads ends. ⊎_elim
        (λ (a : IsAnswer start state OnePart ran.input received_now result).
        by_cause start.run_output extends_all start.log_rules state ran.input start.received received_now a.log
        all (first_of same_frame start.log_rules ran.input a.log all a.reads reads ends) result a.observed
        a.observed.cause)
        (λ (no : RefusesInput start ran.input received_now result).
        absurd (not_both all reads no.refuses_two no.version)) ran.came;
    refused = λ refuses_two two. ⊎_elim
        (λ (a : IsAnswer start state OnePart ran.input received_now result).
        absurd (not_both a.log a.reads refuses_two two))
        (λ (no : RefusesInput start ran.input received_now result). (no.answer, no.wrote)) ran.came;
  }

  whole_records : OnePart → result ≡ Err NoMemory
      → WroteRecords start.log_rules start.run_output start.left left_now start.received received_now
  whole_records one is = ⊎_elim
      (λ (a : IsAnswer start state OnePart ran.input received_now result).
      record {
        input = ran.input;
        read = ran.read;
        log = a.log;
        reads = a.reads;
        continues = (a.whole one is).0;
        wrote = (a.whole one is).1;
      })
      (λ (no : RefusesInput start ran.input received_now result).
      absurd (let wrong : ◌≡◌ {A = Result Outcome EngineFault} (Err (BadLog 0)) (Err NoMemory) = sym no.answer ∙ is in
      cc))
      ran.came

pub run_of_course : (run_output : List Record → RunOutput) → ExtendsAll run_output → (in_parts : Bool)
    {log_rules : LogRules} {flushes : Bool} {OnePart : Type 0} {max_turns : ℕ} {before after : Ports}
    {result : Result Outcome EngineFault} → (in_parts ≡ false → OnePart)
    → IsLoopRun log_rules run_output flushes OnePart max_turns before after result
    → IsEngineRun (record { log_rules = log_rules; run_output = run_output; flushes = flushes; in_parts = in_parts })
    max_turns before after result
run_of_course run_output extends_all in_parts {log_rules} {before = before} one run =
    let start = start_at log_rules run_output before in
    record {
      all_records = over_all start extends_all run.ran;
      whole = λ parts. whole_records start extends_all run.ran (one parts);
      called = run.called;
      few = run.few;
      none_passed_over = run.none_passed_over;
      all_flushed = run.all_flushed;
    }

pub run_of : {State : Type 0} (view : View State) (state : State) (s : Session) (in_parts : Bool)
    {log_rules : LogRules} {flushes : Bool} {OnePart : Type 0} {max_turns : ℕ} {before after : Ports}
    {result : Result Outcome EngineFault} → (in_parts ≡ false → OnePart)
    → IsLoopRun log_rules (output_in view state s) flushes OnePart max_turns before after result
    → IsEngineRun (record {
      log_rules = log_rules;
      run_output = output_in view state s;
      flushes = flushes;
      in_parts = in_parts;
    }) max_turns before after result
run_of view state s in_parts one run =
    run_of_course (output_in view state s) (extends view state s) in_parts one run
