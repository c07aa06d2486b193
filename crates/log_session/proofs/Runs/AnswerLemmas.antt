-- What was written and answered by the records of one log.
use Rattle.log_session.proofs.Prelude.{Bool, List, None, Option, Some, [], ap, append-nil, append_assoc, arith, false, inl, inr, length, refl, sym, true, ℕ, ◌++◌, ◌<◌, ◌∙◌, ◌∷◌, ◌≡◌, ◌⊎◌, common_steps, length-append, Appends, Err, Result, written_is_frame, FrameFault, IsBadMark, IsMalformed, IsReadAs, Log, IsCause, is_cut_off, last_if, PortState, all_of, last_of, RunOutput, Outcome, HasWritten, IsAnswer, RunStart, EngineFault, NoMemory, TooManyTurns}

-- ---- is the output at the end due?

module _ (last : List ℕ) where
  pub stopped_none : (ended : Bool) (rest : List ℕ) (stop : Option (Result Outcome EngineFault))
      (answer : Result Outcome EngineFault) → stop ≡ Some answer → last_if ended rest stop last ≡ []
  stopped_none true [] None answer e = absurd (let wrong : None ≡ Some answer = e in cc)
  stopped_none _ _ _ answer e = refl

  pub open_none : (ended : Bool) (rest : List ℕ) (stop : Option (Result Outcome EngineFault)) → ended ≡ false
      → last_if ended rest stop last ≡ []
  open_none ended rest stop e = rw e refl

  pub none_or_whole : (ended : Bool) (rest : List ℕ) (stop : Option (Result Outcome EngineFault))
      → (last_if ended rest stop last ≡ []) ⊎ (rest ≡ [])
  none_or_whole true [] stop = inr refl
  none_or_whole _ _ stop = inl refl

  pub due_last : (ended : Bool) (rest : List ℕ) (stop : Option (Result Outcome EngineFault)) → ended ≡ true
      → rest ≡ [] → stop ≡ None → last_if ended rest stop last ≡ last
  due_last ended rest stop error whole continues = rw (error, whole, continues) refl

  rest_none : (ended : Bool) (rest : List ℕ) (stop : Option (Result Outcome EngineFault)) → (rest ≡ [] → ⊥)
      → last_if ended rest stop last ≡ []
  rest_none true [] stop some = absurd (some refl)
  rest_none _ _ stop some = refl

-- ---- rests that aren't empty

nothing_after : (a b : List ℕ) → a ++ b ≡ [] → b ≡ []
nothing_after [] b e = e
nothing_after (x ∷ a) b e = absurd (cc)

pub malformed_some : (max_body : ℕ) (input : List ℕ) (fault : FrameFault) (log : Log)
    → IsMalformed max_body input fault log → log.rest ≡ [] → ⊥
malformed_some max_body input fault log is none =
    grind (arith, common_steps, nothing_after, written_is_frame, append-nil)

pub bad_some : (input : List ℕ) (place : ℕ) (log : Log) → IsBadMark input place log → log.rest ≡ [] → ⊥
bad_some input place log is none = let wrong : is.byte ∷ is.more ≡ [] = sym is.is ∙ none in cc

-- Bytes that are short of some bytes are short of more.
pub still_short : (unflushed : Bool) (some more : List ℕ) → (0 < length some) ⊎ (unflushed ≡ true)
    → (0 < length (some ++ more)) ⊎ (unflushed ≡ true)
still_short unflushed some more (inl long) = inl (omega (arith, long, length-append some more))
still_short unflushed some more (inr kept) = inr kept

-- ---- an answer, by what was written

module _ (start : RunStart) (state : PortState) (OnePart : Type 0) (input : List ℕ) (received_now : Option (List ℕ))
    (log : Log) (reads : IsReadAs start.log_rules input log) where
  abbrev output : RunOutput
  output = start.run_output log.records

  abbrev last : List ℕ
  last = last_of start.run_output log

  abbrev at_end : List ℕ
  at_end = last_if state.ended log.rest output.stop last

  abbrev Cause : List ℕ → List ℕ → Result Outcome EngineFault → Type 0
  Cause written left result = IsCause start.log_rules state input log output written left result

  abbrev Whole : Result Outcome EngineFault → Type 0
  Whole result = OnePart → result ≡ Err NoMemory → HasWritten start log received_now

  by_written : (result : Result Outcome EngineFault) → Whole result → (written left : List ℕ)
      → output.out ++ at_end ≡ written ++ left → Appends start.received received_now written
      → (is_cut_off result ≡ false → left ≡ []) → Cause written left result
      → IsAnswer start state OnePart input received_now result
  by_written result whole written left is wrote cut cause = record {
    log = log;
    reads = reads;
    observed =
        record { written = written; left = left; is = is; wrote = wrote; whole = cut; cause = cause };
    whole = whole;
  }

  -- the records' output was written, and no more was to be
  pub of_records : (result : Result Outcome EngineFault) → Whole result → at_end ≡ []
      → Appends start.received received_now output.out → Cause output.out [] result
      → IsAnswer start state OnePart input received_now result
  of_records result whole none wrote cause =
      by_written result whole output.out [] (ap (λ z. output.out ++ z) none) wrote (λ _. refl) cause

  -- the last record ended the run
  pub of_stop : (answer : Result Outcome EngineFault) → Whole answer → output.stop ≡ Some answer
      → Appends start.received received_now output.out → Cause output.out [] answer
      → IsAnswer start state OnePart input received_now answer
  of_stop answer whole stops = of_records answer whole (stopped_none last state.ended log.rest output.stop answer stops)

  -- no record begins what follows
  pub of_rest : (result : Result Outcome EngineFault) → (log.rest ≡ [] → ⊥) → HasWritten start log received_now
      → Cause output.out [] result → IsAnswer start state OnePart input received_now result
  of_rest result some done =
      of_records result (λ _ _. done) (rest_none last state.ended log.rest output.stop some) done.1

  -- some first bytes of the records' output were written
  pub of_front : (result : Result Outcome EngineFault) → Whole result → is_cut_off result ≡ true
      → (written left : List ℕ) → output.out ≡ written ++ left → Appends start.received received_now written
      → Cause written (left ++ at_end) result → IsAnswer start state OnePart input received_now result
  of_front result whole cut written left is wrote cause =
      by_written result whole written (left ++ at_end)
      (ap (λ z. z ++ at_end) is ∙ append_assoc written left at_end) wrote
      (λ none. absurd (let wrong : true ≡ false = sym cut ∙ none in cc)) cause

  pub of_done : (result : Result Outcome EngineFault) → is_cut_off result ≡ true → HasWritten start log received_now
      → Cause output.out at_end result → IsAnswer start state OnePart input received_now result
  of_done result cut done = of_front result (λ _ _. done) cut output.out [] (sym (append-nil output.out)) done.1

  -- some first bytes of all output were written
  pub of_all : (result : Result Outcome EngineFault) → Whole result → (written left : List ℕ) → state.ended ≡ true
      → log.rest ≡ [] → output.stop ≡ None → all_of start.run_output log ≡ written ++ left
      → Appends start.received received_now written → (is_cut_off result ≡ false → left ≡ [])
      → Cause written left result → IsAnswer start state OnePart input received_now result
  of_all result whole written left error none continues is =
      by_written result whole written left
      (ap (λ z. output.out ++ z) (due_last last state.ended log.rest output.stop error none continues) ∙ is)

  -- a turn was needed
  pub needs : (written left : List ℕ) → (0 < length left) ⊎ (state.unflushed ≡ true)
      → Cause written left (Err TooManyTurns)
  needs written left (inl long) = inl long
  needs written left (inr unflushed) = inr (inl unflushed)

  pub of_short : (written left : List ℕ) → output.out ≡ written ++ left → Appends start.received received_now written
      → (0 < length left) ⊎ (state.unflushed ≡ true)
      → IsAnswer start state OnePart input received_now (Err TooManyTurns)
  of_short written left is wrote short =
      of_front (Err TooManyTurns) (λ _ e. absurd (cc)) refl written left is wrote
      (needs written (left ++ at_end) (still_short state.unflushed left at_end short))

pub for_parts : {start : RunStart} {state : PortState} {P Q : Type 0} {input : List ℕ}
    {received_now : Option (List ℕ)} {result : Result Outcome EngineFault} → (Q → P)
    → IsAnswer start state P input received_now result → IsAnswer start state Q input received_now result
for_parts one answer = record {
  log = answer.log;
  reads = answer.reads;
  observed = answer.observed;
  whole = λ q. answer.whole (one q);
}
