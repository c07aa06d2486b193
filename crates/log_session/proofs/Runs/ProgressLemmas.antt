-- What a run wrote, record by record and at the end of its input.
use Rattle.log_session.proofs.Prelude.{◌≡◌, ℕ, ◌+◌, ◌-◌, ◌≤◌, List, [], ◌∷◌, ◌++◌, length, take, drop, Bool, true, false, Option, Some, None, Result, Ok, Err, ⊤, refl, sym, ◌∙◌, ap, ap₂, subst, arith, append_assoc, append-nil, length-append, inl, inr, ◌⊎◌, drop-drop, MatchOption, Appends, Appends-nil, Appends-trans, IsFrameOf, place_after, Outcome, EngineFault, Write, Frame, Truncated, BodyTooLong, NoMemory, TooManyTurns, BadLog, Splitter, AppendsFront, AppendsShort, Record, Log, HasNoRecord, IsReadAs, IsUndecided, IsFed, IsReady, IsAfter, IsSplitFault, IsUnfinished, buffered_law, buffered_of, is_line_due, log_at, mark_of, record_at, rest_law, RunOutput, IsQuiet, IsFaultAt, after, stopped, written_first, PortState, last_of, state_of, IsCause, HasWritten, IsAnswer, IsEndCause, IsEndWritten, IsProgress, RunStart, is_cut_off}
use Rattle.std.proofs.lemmas.Slice.{between_to_end}
use Rattle.lsp_log.proofs.SplitLemmas.{frame_len}
use Rattle.log_session.proofs.Runs.AnswerLemmas.{bad_some, malformed_some, needs, of_all, of_done, of_front, of_rest, of_short, of_stop, still_short}

-- ---- rests that no record begins

pub empty_rest : (max_body : ℕ) (log : Log) → log.rest ≡ [] → HasNoRecord max_body log
empty_rest max_body log nothing side raw body more is_frame_of e =
    absurd (omega (
      arith,
      ap length nothing,
      ap length e,
      length-append (mark_of log.version side) (raw ++ more),
      length-append raw more,
      frame_len max_body raw body is_frame_of,
    ))

no_record : (max_body : ℕ) (log : Log) → IsUndecided max_body log → HasNoRecord max_body log
no_record max_body log (inl nothing) = empty_rest max_body log nothing
no_record max_body log (inr cut) = cut.none

-- ---- between two records

module _ {start : RunStart} {input more : List ℕ} {s : Splitter} {now : List Record → RunOutput}
    {received_now : Option (List ℕ)} (w : IsProgress start input more s now received_now) where
  whole_is : start.run_output w.records ≡ written_first w.out (now [])
  whole_is = ap start.run_output (sym (append-nil w.records)) ∙ w.outputs []

  out_is : IsQuiet now → (start.run_output w.records).out ≡ w.out ++ []
  out_is quiet = ap (λ (c : RunOutput). c.out) whole_is ∙ ap (λ z. w.out ++ z) quiet.silent

  stop_is : IsQuiet now → (start.run_output w.records).stop ≡ None
  stop_is quiet = ap (λ (c : RunOutput). c.stop) whole_is ∙ quiet.unstopped

  -- nothing was written since
  pub went_so_far : (received_new : Option (List ℕ)) → IsQuiet now → Appends received_now received_new []
      → HasWritten start (log_at s w.records more) received_new
  went_so_far received_new quiet nothing = (
    stop_is quiet,
    subst (λ (z : List ℕ). Appends start.received received_new z) (sym (out_is quiet))
        (Appends-trans start.received received_now received_new w.out [] w.wrote nothing),
  )

  went_here : IsQuiet now → HasWritten start (log_at s w.records more) received_now
  went_here quiet = went_so_far received_now quiet (Appends-nil received_now)

  -- a fault in front of the next record
  pub split_fault : (state : PortState) (fault : EngineFault) → IsQuiet now
      → IsSplitFault start.log_rules.max_body input (log_at s w.records more) fault
      → IsAnswer start state ⊤ input received_now (Err fault)
  split_fault state (Frame fault) quiet why =
      of_rest start state ⊤ input received_now (log_at s w.records more) w.is_after.reads (Err (Frame fault))
      (malformed_some start.log_rules.max_body input fault (log_at s w.records more) why) (went_here quiet)
      (stop_is quiet, why)
  split_fault state NoMemory quiet why =
      of_done start state ⊤ input received_now (log_at s w.records more) w.is_after.reads (Err NoMemory) refl
      (went_here quiet) tt
  split_fault state (BadLog place) quiet why =
      of_rest start state ⊤ input received_now (log_at s w.records more) w.is_after.reads (Err (BadLog place))
      (bad_some input place (log_at s w.records more) why) (went_here quiet) (inr (stop_is quiet, why))
  split_fault state _ quiet why = absurd why

-- The bytes of a piece, as a splitter takes them.
piece_is : (piece : List ℕ) (at : ℕ) → at ≤ length piece → take (length piece - at) (drop at piece) ≡ drop at piece
piece_is piece at within = between_to_end piece at (length piece) (omega arith)

module _ {start : RunStart} {input : List ℕ} (piece : List ℕ) (at : ℕ) {s : Splitter}
    {now : List Record → RunOutput} {received_now : Option (List ℕ)} (within : at ≤ length piece)
    (w : IsProgress start input (drop at piece) s now received_now) where
  as_fed : IsProgress start input (take (length piece - at) (drop at piece)) s now received_now
  as_fed = subst (λ (z : List ℕ). IsProgress start input z s now received_now) (sym (piece_is piece at within)) w

  pub went_fed : (k : ℕ) (n : Splitter) → ((records : List Record)
      → IsAfter start.log_rules input (take (length piece - at) (drop at piece)) records s
      → IsAfter start.log_rules input (drop k (take (length piece - at) (drop at piece))) records n)
      → IsProgress start input (drop (at + k) piece) n now received_now
  went_fed k n fed = record {
    records = as_fed.records;
    is_after = subst (λ (z : List ℕ). IsAfter start.log_rules input z as_fed.records n)
        (ap (drop k) (piece_is piece at within) ∙ drop-drop k at piece) (fed as_fed.records as_fed.is_after);
    out = as_fed.out;
    outputs = as_fed.outputs;
    wrote = as_fed.wrote;
  }

  pub fed_fault : (state : PortState) (fault : EngineFault) → IsQuiet now → ((records : List Record)
      → IsAfter start.log_rules input (take (length piece - at) (drop at piece)) records s
      → IsSplitFault start.log_rules.max_body input
      (log_at s records (take (length piece - at) (drop at piece))) fault)
      → IsAnswer start state ⊤ input received_now (Err fault)
  fed_fault state fault quiet why = split_fault as_fed state fault quiet (why as_fed.records as_fed.is_after)

-- ---- a record that is buffered

-- a record's output, from the course that begins with it
record_out : (c : RunOutput) (bytes : List ℕ) (end : Option Outcome) (next : RunOutput) → c ≡ after bytes end next
    → next.out ≡ [] → c.out ≡ bytes
record_out c bytes None next is silent = ap (λ (c : RunOutput). c.out) is ∙ ap (λ z. bytes ++ z) silent
    ∙ append-nil bytes
record_out c bytes (Some outcome) next is silent = ap (λ (c : RunOutput). c.out) is

module _ {start : RunStart} {input more : List ℕ} {s : Splitter} {now : List Record → RunOutput}
    {received_now : Option (List ℕ)} (w : IsProgress start input more s now received_now) (r : Record)
    (fed : IsFed s) (is : r ≡ record_at s r.body)
    (is_frame : IsFrameOf s.framer.limits.max_body s.framer.buffered r.body) where
  abbrev log : Log
  log = record { version = s.version; records = w.records ++ r ∷ []; rest = more }

  reads : IsReadAs start.log_rules input log
  reads = subst (λ (q : Record). IsReadAs start.log_rules input
      (record { version = s.version; records = w.records ++ q ∷ []; rest = more })) (sym is)
      (buffered_law start.log_rules input more r.body w.records s fed is_frame w.is_after)

  -- it ended the run
  ended_by : (state : PortState) (received_new : Option (List ℕ)) (bytes : List ℕ)
      (answer : Result Outcome EngineFault) → now (r ∷ []) ≡ stopped bytes answer
      → Appends received_now received_new bytes → (answer ≡ Err NoMemory → ⊥)
      → ((start.run_output log.records).stop ≡ Some answer
      → IsCause start.log_rules state input log (start.run_output log.records) (start.run_output log.records).out []
      answer) → IsAnswer start state ⊤ input received_new answer
  ended_by state received_new bytes answer ends wrote other cause =
      let is : start.run_output log.records ≡ written_first w.out (stopped bytes answer) =
      w.outputs (r ∷ []) ∙ ap (written_first w.out) ends in
      let stops : (start.run_output log.records).stop ≡ Some answer = ap (λ (c : RunOutput). c.stop) is in
      of_stop start state ⊤ input received_new log reads answer (λ _ e. absurd (other e)) stops
      (subst (λ (z : List ℕ). Appends start.received received_new z) (sym (ap (λ (c : RunOutput). c.out) is))
      (Appends-trans start.received received_now received_new w.out bytes w.wrote wrote)) (cause stops)

  -- a fault before anything of it is written
  pub handle_fault : (state : PortState) (fault : EngineFault) → IsQuiet now → IsFaultAt now r fault
      → IsAnswer start state ⊤ input received_now (Err fault)
  handle_fault state fault quiet (inl no_memory) =
      subst (λ (f : EngineFault). IsAnswer start state ⊤ input received_now (Err f)) (sym no_memory)
      (of_done start state ⊤ input received_now (log_at s w.records more) w.is_after.reads (Err NoMemory) refl
      (went_so_far w received_now quiet (Appends-nil received_now)) tt)
  handle_fault state (BodyTooLong place) quiet (inr ends) =
      ended_by state received_now [] (Err (BodyTooLong place)) (ends.1 []) (Appends-nil received_now) (λ e. cc)
      (λ stops. stops)
  handle_fault state (BadLog place) quiet (inr ends) =
      ended_by state received_now [] (Err (BadLog place)) (ends.1 []) (Appends-nil received_now) (λ e. cc)
      (λ stops. inl stops)
  handle_fault state _ quiet (inr ends) = absurd ends.0

  front_is : (bytes front rest : List ℕ) → (now (r ∷ [])).out ≡ bytes → bytes ≡ front ++ rest
      → (start.run_output log.records).out ≡ (w.out ++ front) ++ rest
  front_is bytes front rest out cut =
      ap (λ (c : RunOutput). c.out) (w.outputs (r ∷ [])) ∙ ap (λ z. w.out ++ z) (out ∙ cut)
      ∙ sym (append_assoc w.out front rest)

  -- a fault in writing its output
  pub write_fault : (ended_before ended unflushed : Bool) {received_new : Option (List ℕ)} (bytes : List ℕ)
      {out : List ℕ} (end : Option Outcome) (new : List Record → RunOutput) (fault : EngineFault)
      → ((others : List Record) → now (r ∷ others) ≡ after out end (new others)) → IsQuiet new → bytes ≡ out
      → (fault ≡ Write) ⊎ (fault ≡ TooManyTurns) → AppendsFront received_now received_new bytes
      → (fault ≡ TooManyTurns → AppendsShort unflushed received_now received_new bytes)
      → IsAnswer start (state_of ended_before ended unflushed) ⊤ input received_new (Err fault)
  write_fault ended_before ended unflushed {received_new} bytes {out} end new fault gives quiet is (inl at) cut short =
      subst (λ (f : EngineFault). IsAnswer start (state_of ended_before ended unflushed) ⊤ input received_new (Err f))
      (sym at)
      (of_front start (state_of ended_before ended unflushed) ⊤ input received_new log reads (Err Write)
      (λ _ e. absurd (cc)) refl (w.out ++ cut.0) cut.1
      (front_is bytes cut.0 cut.1 (record_out (now (r ∷ [])) out end (new []) (gives []) quiet.silent ∙ sym is) cut.2)
      (Appends-trans start.received received_now received_new w.out cut.0 w.wrote cut.3) tt)
  write_fault ended_before ended unflushed {received_new} bytes {out} end new fault gives quiet is (inr at) front
      short =
      let cut = short at in
      let state = state_of ended_before ended unflushed in
      subst (λ (f : EngineFault). IsAnswer start state ⊤ input received_new (Err f)) (sym at)
      (of_short start state ⊤ input received_new log reads (w.out ++ cut.0) cut.1
      (front_is bytes cut.0 cut.1 (record_out (now (r ∷ [])) out end (new []) (gives []) quiet.silent ∙ sym is) cut.2)
      (Appends-trans start.received received_now received_new w.out cut.0 w.wrote cut.3) cut.4)

  -- its output was written
  pub handled : {n : Splitter} (new : List Record → RunOutput) (received_new : Option (List ℕ)) (bytes : List ℕ)
      {out : List ℕ} (end : Option Outcome)
      → ((records : List Record) → IsFrameOf start.log_rules.max_body s.framer.buffered r.body
      → IsAfter start.log_rules input more records s
      → IsAfter start.log_rules input more (records ++ record_at s r.body ∷ []) n)
      → ((others : List Record) → now (r ∷ others) ≡ after out end (new others)) → bytes ≡ out
      → Appends received_now received_new bytes
      → MatchOption end (IsProgress start input more n new received_new)
      (λ outcome. (ended_before ended unflushed : Bool) → IsAnswer start (state_of ended_before ended unflushed) ⊤
      input received_new (Ok outcome))
  handled {n} new received_new bytes {out} None next gives same wrote = record {
    records = w.records ++ r ∷ [];
    is_after = subst (λ (q : Record). IsAfter start.log_rules input more (w.records ++ q ∷ []) n) (sym is)
        (next w.records (subst (λ (m : ℕ). IsFrameOf m s.framer.buffered r.body) w.is_after.limit is_frame) w.is_after);
    out = w.out ++ out;
    outputs = λ others. ap start.run_output (append_assoc w.records (r ∷ []) others) ∙ w.outputs (r ∷ others)
        ∙ ap (written_first w.out) (gives others)
        ∙ ap (λ z. record (new others) { out = z }) (sym (append_assoc w.out out (new others).out));
    wrote = Appends-trans start.received received_now received_new w.out out w.wrote
        (subst (λ (z : List ℕ). Appends received_now received_new z) same wrote);
  }
  handled {n} new received_new bytes {out} (Some outcome) next gives same wrote =
      λ ended_before ended unflushed.
      ended_by (state_of ended_before ended unflushed) received_new out (Ok outcome) (gives [])
      (subst (λ (z : List ℕ). Appends received_now received_new z) same wrote) (λ e. cc) (λ stops. inl stops)

-- ---- at the end of the input

module _ {start : RunStart} {input : List ℕ} {s : Splitter} {now : List Record → RunOutput}
    {received_now : Option (List ℕ)} (w : IsProgress start input [] s now received_now) (ready : IsReady s)
    (quiet : IsQuiet now) where
  abbrev records_read : Log
  records_read = log_at s w.records []

  undecided : IsUndecided start.log_rules.max_body records_read
  undecided = rest_law start.log_rules input w.records s ready w.is_after

  pub unfinished : IsUnfinished start.log_rules input records_read
  unfinished =
      record { none = no_record start.log_rules.max_body records_read undecided; undecided = inl undecided }

  -- it is cut
  pub cut_answer : (ended_before ended unflushed : Bool) (OnePart : Type 0) (place : ℕ) → (buffered_of s ≡ [] → ⊥)
      → ended ≡ true → place ≡ place_after 0 (length input)
      → IsAnswer start (state_of ended_before ended unflushed) OnePart input received_now (Err (Truncated place))
  cut_answer ended_before ended unflushed OnePart place some error placed = by undecided
    where
      by : IsUndecided start.log_rules.max_body records_read
          → IsAnswer start (state_of ended_before ended unflushed) OnePart input received_now (Err (Truncated place))
      by (inl nothing) = absurd (some (sym (append-nil (buffered_of s)) ∙ nothing))
      by (inr cut) =
          of_rest start (state_of ended_before ended unflushed) OnePart input received_now records_read
          w.is_after.reads (Err (Truncated place)) cut.some
          (went_so_far w received_now quiet (Appends-nil received_now)) (error, placed, stop_is w quiet, cut)

  last_is : last_of start.run_output records_read ≡ (now []).last s.line_due
  last_is = ap (λ (c : RunOutput). c.last (is_line_due s.version w.records)) (whole_is w)
      ∙ ap (λ (b : Bool). (now []).last b) (sym w.is_after.due)

  -- the output at the end was written, or a first part of it
  module _ (ended_before ended unflushed : Bool) {OnePart : Type 0} {received_new : Option (List ℕ)}
      (nothing : buffered_of s ≡ []) (error : ended ≡ true) where
    end_by : (result : Result Outcome EngineFault)
        (e : IsEndWritten OnePart unflushed s.line_due (now []) received_now received_new result)
        → (OnePart → result ≡ Err NoMemory → e.written ≡ []) → (is_cut_off result ≡ false → e.left ≡ [])
        → IsCause start.log_rules (state_of ended_before ended unflushed) input records_read
        (start.run_output w.records) (w.out ++ e.written) e.left result
        → IsAnswer start (state_of ended_before ended unflushed) OnePart input received_new result
    end_by result e none cut cause =
        of_all start (state_of ended_before ended unflushed) OnePart input received_new records_read w.is_after.reads
        result
        (λ one is. went_so_far w received_new quiet
        (subst (λ (z : List ℕ). Appends received_now received_new z) (none one is) e.wrote))
        (w.out ++ e.written) e.left error (append-nil (buffered_of s) ∙ nothing) (stop_is w quiet)
        (ap₂ (λ (a b : List ℕ). a ++ b) (out_is w quiet ∙ append-nil w.out) (last_is ∙ e.is)
        ∙ sym (append_assoc w.out e.written e.left))
        (Appends-trans start.received received_now received_new w.out e.written w.wrote e.wrote) cut cause

    answer_by : (result : Result Outcome EngineFault)
        (e : IsEndWritten OnePart unflushed s.line_due (now []) received_now received_new result)
        → IsEndCause OnePart unflushed (now []).outcome e.written e.left result
        → IsAnswer start (state_of ended_before ended unflushed) OnePart input received_new result
    answer_by (Ok outcome) e cause =
        end_by (Ok outcome) e (λ _ is. absurd (cc)) (λ _. cause.1)
        (inr (
          error,
          append-nil (buffered_of s) ∙ nothing,
          stop_is w quiet,
          cause.0 ∙ sym (ap (λ (c : RunOutput). c.outcome) (whole_is w)),
        ))
    answer_by (Err Write) e cause =
        end_by (Err Write) e (λ _ is. absurd (cc)) (λ never. absurd (let wrong : true ≡ false = never in cc)) tt
    answer_by (Err NoMemory) e cause =
        end_by (Err NoMemory) e (λ one _. cause one) (λ never. absurd (let wrong : true ≡ false = never in cc)) tt
    answer_by (Err TooManyTurns) e cause =
        end_by (Err TooManyTurns) e (λ _ is. absurd (cc)) (λ never. absurd (let wrong : true ≡ false = never in cc))
        (needs start (state_of ended_before ended unflushed) OnePart input received_new records_read
        w.is_after.reads (w.out ++ e.written) e.left cause)
    answer_by (Err _) e cause = absurd cause

    pub end_answer : {result : Result Outcome EngineFault}
        → IsEndWritten OnePart unflushed s.line_due (now []) received_now received_new result
        → IsAnswer start (state_of ended_before ended unflushed) OnePart input received_new result
    end_answer {result} e = answer_by result e e.cause

-- ---- a part of the output at the end

pub part_is : (answer : Option Outcome) (last buffer more : List ℕ) (A B : Type 0) (C : Outcome → Type 0)
    → MatchOption answer ((last ≡ buffer ++ more) × A × B) (λ outcome. (last ≡ buffer) × C outcome)
    → (rest : List ℕ) × (last ≡ buffer ++ rest)
part_is None last buffer more A B C error = (more, error.0)
part_is (Some outcome) last buffer more A B C error = ([], error.0 ∙ sym (append-nil buffer))

part_at : {last : List ℕ} (out front left buffer rest : List ℕ) → buffer ≡ front ++ left
    → last ≡ out ++ (buffer ++ rest) → last ≡ (out ++ front) ++ (left ++ rest)
part_at out front left buffer rest cut is =
    is ∙ ap (λ z. out ++ (z ++ rest)) cut ∙ ap (λ z. out ++ z) (append_assoc front left rest)
    ∙ sym (append_assoc out front (left ++ rest))

pub part_fault : {OnePart : Type 0} {unflushed line_due : Bool} {output : RunOutput} {old new : Option (List ℕ)}
    (mid : Option (List ℕ)) (out buffer rest : List ℕ) (fault : EngineFault)
    → output.last line_due ≡ out ++ (buffer ++ rest)
    → Appends old mid out → (fault ≡ Write) ⊎ (fault ≡ TooManyTurns) → AppendsFront mid new buffer
    → (fault ≡ TooManyTurns → AppendsShort unflushed mid new buffer)
    → IsEndWritten OnePart unflushed line_due output old new (Err fault)
part_fault {OnePart} {unflushed} {line_due} {output} {old} {new} mid out buffer rest fault is wrote (inl at) cut short =
    subst (λ (f : EngineFault). IsEndWritten OnePart unflushed line_due output old new (Err f)) (sym at) (record {
      written = out ++ cut.0;
      left = cut.1 ++ rest;
      is = part_at out cut.0 cut.1 buffer rest cut.2 is;
      wrote = Appends-trans old mid new out cut.0 wrote cut.3;
      cause = tt;
    })
part_fault {OnePart} {unflushed} {line_due} {output} {old} {new} mid out buffer rest fault is wrote (inr at) front
    short =
    let cut = short at in
    subst (λ (f : EngineFault). IsEndWritten OnePart unflushed line_due output old new (Err f)) (sym at) (record {
      written = out ++ cut.0;
      left = cut.1 ++ rest;
      is = part_at out cut.0 cut.1 buffer rest cut.2 is;
      wrote = Appends-trans old mid new out cut.0 wrote cut.3;
      cause = still_short unflushed cut.1 rest cut.4;
    })
