-- A run between two reads, and how it ends.
use Rattle.log_session.proofs.Prelude.{Bool, List, Option, [], ap, append-nil, append_assoc, arith, drop, false, inl, inr, length, refl, subst, sym, take, true, ℕ, ◌++◌, ◌+◌, ◌-◌, ◌<◌, ◌^◌, ◌∙◌, ◌∷◌, ◌≡◌, ◌≤◌, ◌⊎◌, Appends-nil, Consumes-kept, Consumes-trans, drop-take, length-append, length-take, take-append-drop, Appends, Consumes, Keeps, Err, Result, min, place_after, IsFrameOf, IsReadAs, IsUndecided, IsVersion, Log, Record, line_of, record_bytes, together, version_line, IsBelowLine, IsLineFront, IsUnfinished, IsAfter, IsOpen, IsReady, buffered_of, log_at, Version, One, Two, Splitter, PortState, last_of, RunOutput, Outcome, HasWritten, IsAnswer, IsProgress, Ran, RunStart, Runs, IsQuiet, EngineFault, BadLog, Read, TooManyTurns}
use Rattle.log_session.proofs.Runs.LineLemmas.{no_line}
use Rattle.log_session.proofs.Runs.AnswerLemmas.{of_done, of_records, open_none}
use Rattle.log_session.proofs.Runs.ProgressLemmas.{unfinished, went_so_far}

together_more : (version : Version) (rs : List Record) (rest more : List ℕ) → together version rs (rest ++ more)
    ≡ together version rs rest ++ more
together_more version [] rest more = refl
together_more version (q ∷ rs) rest more = ap (λ z. record_bytes version q ++ z) (together_more version rs rest more)
    ∙ sym (append_assoc (record_bytes version q) (together version rs rest) more)

pub ended_not : (ended : Bool) → ended ≡ false → ended ≡ true → ⊥
ended_not ended a b = let two : false ≡ true = sym a ∙ b in cc

pub not_at_end : (error ended : Bool) → (error ≡ true → ended ≡ true) → ended ≡ false → error ≡ false
not_at_end true ended same other = absurd (ended_not ended other (same refl))
not_at_end false ended same other = refl

-- No frame begins with some first bytes of the line of version 2.
no_frame_in_line : (max_body : ℕ) (bytes raw body more : List ℕ) → IsLineFront bytes → IsFrameOf max_body raw body
    → bytes ≡ raw ++ more → ⊥
no_frame_in_line max_body bytes raw body more front is_frame_of e =
    let rest = drop (length bytes) version_line in
    no_line max_body raw body (more ++ rest) [] is_frame_of
    (sym (append_assoc raw more rest) ∙ ap (λ z. z ++ rest) (sym e ∙ front.1)
    ∙ take-append-drop (length bytes) version_line ∙ sym (append-nil version_line))

-- The input may still become the line, or it is nothing.
unopened : (versions : Bool) (max_body : ℕ) (input : List ℕ) → IsLineFront input → (versions ≡ false → input ≡ [])
    → IsUndecided max_body (record { version = One; records = []; rest = input })
    ⊎ ((versions ≡ true) × IsLineFront input)
unopened true max_body input front none = inr (refl, front)
unopened false max_body input front none = inl (inl (none refl))

-- ---- between two reads

-- at the start
pub runs_at_start : (start : RunStart) {left_now : Option (List ℕ)} {ended : Bool} (len place size : ℕ)
    (buf : List ℕ) {s : Splitter} (version : Version) → len ≤ length buf → len < 2 ^ 64
    → size ≡ length (line_of version) → place ≡ len → s.version ≡ version
    → Consumes start.left left_now (take len buf)
    → ((more : List ℕ) → (ended ≡ true → more ≡ [])
    → IsVersion start.log_rules.versions version (take len buf ++ more))
    → length (line_of version) ≤ len
    → take len buf ≡ line_of version ++ drop (length (line_of version)) (take len buf)
    → (start.log_rules.refuses_two ≡ true → version ≡ One)
    → ((input more : List ℕ) → IsOpen start.log_rules input version more → IsAfter start.log_rules input more [] s)
    → Runs start left_now ended place (take (len - size) (drop size buf)) s start.run_output start.received
runs_at_start start len place size buf version within fits sized placed same read known short front accepted is_after =
    let all : length (take len buf) ≡ len = omega (arith, length-take len buf) in
    let sum : size + (len - size) ≡ len = omega (arith, sized, short) in
    let piece : drop (length (line_of version)) (take len buf) ≡ take (len - size) (drop size buf) =
    ap (λ n. drop n (take len buf)) (sym sized) ∙ ap (λ n. drop size (take n buf)) (sym sum)
    ∙ drop-take size (len - size) buf in
    let whole : IsVersion start.log_rules.versions version (take len buf) =
    subst (λ (z : List ℕ). IsVersion start.log_rules.versions version z) (append-nil (take len buf))
    (known [] (λ _. refl)) in
    record {
      input = take len buf;
      read = read;
      progress = record {
        records = [];
        is_after = is_after (take len buf) (take (len - size) (drop size buf)) (record {
          known = whole;
          accepted = accepted;
          is = front ∙ ap (λ z. line_of version ++ z) piece;
        });
        out = [];
        outputs = λ others. refl;
        wrote = Appends-nil start.received;
      };
      placed = omega (arith, placed, all, fits);
      sure = λ more last. subst (λ (v : Version). IsVersion start.log_rules.versions v (take len buf ++ more))
          (sym same) (known more last);
    }

module _ {start : RunStart} {left_now : Option (List ℕ)} {ended : Bool} {place : ℕ} {piece : List ℕ} {s : Splitter}
    {now : List Record → RunOutput} {received_now : Option (List ℕ)}
    (r : Runs start left_now ended place piece s now received_now) where
  -- a piece was taken
  pub runs_on : {n : Splitter} {new : List Record → RunOutput} {received_new : Option (List ℕ)}
      → n.version ≡ s.version → IsProgress start r.input [] n new received_new
      → Runs start left_now ended place [] n new received_new
  runs_on same taken = record {
    input = r.input;
    read = r.read;
    progress = taken;
    placed = r.placed;
    sure = λ more last. subst (λ (v : Version). IsVersion start.log_rules.versions v (r.input ++ more)) (sym same)
        (r.sure more last);
  }

  -- the run ended
  pub ran_by : {state : PortState} {OnePart : Type 0} {received_new : Option (List ℕ)}
      {result : Result Outcome EngineFault} → IsAnswer start state OnePart r.input received_new result
      → Ran start state OnePart left_now received_new result
  ran_by answer = record { input = r.input; read = r.read; came = inl answer }

module _ {start : RunStart} {left_now : Option (List ℕ)} {ended : Bool} {place : ℕ} {s : Splitter}
    {now : List Record → RunOutput} {received_now : Option (List ℕ)}
    (r : Runs start left_now ended place [] s now received_now) where
  -- more was read
  pub runs_more : {left_new : Option (List ℕ)} {ended_new : Bool} {place_new : ℕ} (n : ℕ) {piece : List ℕ}
      → ended ≡ false → length piece ≡ n → place_new ≡ min (place + n) (2 ^ 64 - 1)
      → Consumes left_now left_new piece → Runs start left_new ended_new place_new piece s now received_now
  runs_more {left_new} n {piece} open_still len placed read =
      let w = r.progress in
      let at = w.is_after in
      let not_ended : (more : List ℕ) → ended ≡ true → more ≡ [] = λ more is. absurd (ended_not ended open_still is) in
      let version : IsVersion start.log_rules.versions s.version (r.input ++ piece) = r.sure piece (not_ended piece) in
      let sum : length (r.input ++ piece) ≡ length r.input + length piece = length-append r.input piece in
      let before : buffered_of s ++ [] ≡ buffered_of s = append-nil (buffered_of s) in
      record {
        input = r.input ++ piece;
        read = Consumes-trans start.left left_now left_new r.input piece r.read read;
        progress = record {
          records = w.records;
          is_after = record {
            reads = record {
              version = version;
              accepted = at.reads.accepted;
              is = ap (λ z. z ++ piece) at.reads.is ∙ append_assoc (line_of s.version)
                  (together s.version w.records (buffered_of s ++ [])) piece
                  ∙ ap (λ z. line_of s.version ++ z)
                  (sym (together_more s.version w.records (buffered_of s ++ []) piece)
                  ∙ ap (λ z. together s.version w.records (z ++ piece)) before);
              each = at.reads.each;
            };
            limit = at.limit;
            placed = at.placed ∙ ap (place_after 0) (omega (
              arith,
              sum,
              length-append (buffered_of s) piece,
              ap length before,
            ));
            framed = at.framed ∙ ap (place_after 0) (omega (
              arith,
              sum,
              length-append s.framer.buffered piece,
              ap length (append-nil s.framer.buffered),
            ));
            part = at.part;
            one = at.one;
            side = at.side;
            due = at.due;
          };
          out = w.out;
          outputs = w.outputs;
          wrote = w.wrote;
        };
        placed = omega (arith, placed, r.placed, sum, len);
        sure = λ more last. subst (λ (z : List ℕ). IsVersion start.log_rules.versions s.version z)
            (sym (append_assoc r.input piece more)) (r.sure (piece ++ more) (not_ended (piece ++ more)));
      }

-- ---- how a run ends before anything is read, or while more was to be

-- no more could be read
unread_by : (start : RunStart) (state : PortState) (OnePart : Type 0) (input : List ℕ)
    (received_now : Option (List ℕ)) (log : Log) → IsReadAs start.log_rules input log
    → IsUnfinished start.log_rules input log → HasWritten start log received_now → (fault : EngineFault)
    → (fault ≡ Read) ⊎ (fault ≡ TooManyTurns) → (fault ≡ Read → state.ended ≡ false)
    → (fault ≡ TooManyTurns → state.ended_before ≡ false → state.ended ≡ false)
    → IsAnswer start state OnePart input received_now (Err fault)
unread_by start state OnePart input received_now log reads rest done fault (inl is) failed not_ended =
    subst (λ (f : EngineFault). IsAnswer start state OnePart input received_now (Err f)) (sym is)
    (of_records start state OnePart input received_now log reads (Err Read) (λ _ _. done)
    (open_none (last_of start.run_output log) state.ended log.rest (start.run_output log.records).stop (failed is))
    done.1 (failed is, done.0, rest))
unread_by start state OnePart input received_now log reads rest done fault (inr is) failed not_ended =
    subst (λ (f : EngineFault). IsAnswer start state OnePart input received_now (Err f)) (sym is)
    (of_done start state OnePart input received_now log reads (Err TooManyTurns) refl done
    (inr (inr (not_ended is, refl, done.0, rest))))

pub ran_unread : {start : RunStart} {left_now left_new : Option (List ℕ)} {ended : Bool} {state : PortState}
    {OnePart : Type 0} {place : ℕ} {s : Splitter} {now : List Record → RunOutput} {received_now : Option (List ℕ)}
    {fault : EngineFault} → Runs start left_now ended place [] s now received_now → IsReady s → IsQuiet now
    → Keeps left_now left_new → (fault ≡ Read) ⊎ (fault ≡ TooManyTurns) → (fault ≡ Read → state.ended ≡ false)
    → (fault ≡ TooManyTurns → state.ended_before ≡ false → state.ended ≡ false)
    → Ran start state OnePart left_new received_now (Err fault)
ran_unread {start} {left_now} {left_new} {state = state} {OnePart = OnePart} {s = s} {received_now = received_now}
    {fault = fault} r ready quiet kept kind failed not_ended = record {
      input = r.input;
      read = Consumes-kept start.left left_now left_new r.input r.read kept;
      came = inl (unread_by start state OnePart r.input received_now (log_at s r.progress.records [])
          r.progress.is_after.reads (unfinished r.progress ready quiet)
          (went_so_far r.progress received_now quiet (Appends-nil received_now)) fault kind failed not_ended);
    }

-- A log of version 2 was refused.
pub ran_refused : (start : RunStart) {left_now : Option (List ℕ)} {state : PortState} {OnePart : Type 0}
    {fault : EngineFault} (input : List ℕ) (version : Version)
    → (fault ≡ BadLog 0) × (start.log_rules.refuses_two ≡ true) × (version ≡ Two) → Consumes start.left left_now input
    → ((more : List ℕ) → more ≡ [] → IsVersion start.log_rules.versions version (input ++ more))
    → Ran start state OnePart left_now start.received (Err fault)
ran_refused start input version why read known = record {
  input = input;
  read = read;
  came = inr (record {
    refuses_two = why.1;
    version = subst (λ (v : Version). IsVersion start.log_rules.versions v input) why.2
        (subst (λ (z : List ℕ). IsVersion start.log_rules.versions version z) (append-nil input) (known [] refl));
    answer = ap Err why.0;
    wrote = Appends-nil start.received;
  });
}

-- Some first bytes of the line are no log of version 2, and begin no frame.
pub ran_unopened : (start : RunStart) {left_new : Option (List ℕ)} {state : PortState} {OnePart : Type 0}
    {fault : EngineFault} → IsQuiet start.run_output → IsBelowLine start.log_rules.versions start.left left_new
    → (fault ≡ Read) ⊎ (fault ≡ TooManyTurns) → (fault ≡ Read → state.ended ≡ false)
    → (fault ≡ TooManyTurns → state.ended_before ≡ false → state.ended ≡ false)
    → Ran start state OnePart left_new start.received (Err fault)
ran_unopened start {state = state} {OnePart = OnePart} {fault = fault} quiet below kind failed not_ended = record {
  input = below.0;
  read = below.3;
  came = inl (unread_by start state OnePart below.0 start.received
      (record { version = One; records = []; rest = below.0 })
      (record {
        version = λ looks more e. omega (arith, ap length e, length-append version_line more, below.1.0);
        accepted = λ _. refl;
        is = refl;
        each = tt;
      })
      (record {
        none = λ side raw body more is_frame_of e. no_frame_in_line start.log_rules.max_body below.0 raw body more
            below.1 is_frame_of e;
        undecided = unopened start.log_rules.versions start.log_rules.max_body below.0 below.1 below.2;
      }) (
        quiet.unstopped,
        subst (λ (z : List ℕ). Appends start.received start.received z) (sym quiet.silent) (Appends-nil start.received),
      ) fault kind failed not_ended);
}
