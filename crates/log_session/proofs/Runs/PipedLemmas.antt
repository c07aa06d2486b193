-- What a command writes of the records that stay, a record at a time, and over all records.
use Rattle.log_session.proofs.Prelude.{Bool, List, None, Option, Some, [], ap, cond, false, inl, inr, refl, sym, true, ℕ, ◌++◌, ◌||◌, ◌∙◌, ◌∷◌, ◌≡◌, ◌⊎◌, Err, IfErr, IfOk, Ok, OnOk, Result, LogRules, Record, Head, View, output_in, Kept, Selection, after_kept, after_left_out, kept_first, kept_in, output_of_kept, record_stays, with_due, with_line, IsEngineRun, RunOutput, stopped, Session, judge, Outcome, IsLoopRun, IsAdmitted, piped, IsRecordFault, after, Ports, EngineFault, NoMemory}
use Rattle.log_session.proofs.Runs.RunReportLemmas.{ExtendsAll, extends, run_of, run_of_course}

-- ---- the records that stay, by whether the first does

pub kept_true : (s : Session) (c : Selection) (r : Record) (rs : List Record) → record_stays s c.waiting r.head.side
    r.body ≡ true
    → kept_in s c (r ∷ rs) ≡ kept_first (with_line c r) (kept_in (judge s r).session (after_kept c r.head r.body) rs)
kept_true s c r rs e = rw e refl

-- ---- one record

-- After a record that ended the run nothing is due.
due_after : (due : Bool) (bytes : List ℕ) (end : Option Outcome) (c : RunOutput) → with_due due (after bytes end c)
    ≡ after bytes end (with_due due c)
due_after due bytes None c = refl
due_after due bytes (Some outcome) c = refl

-- A record stays, and is written as another: of it and of those behind it these stay.
record IsPipedAs (c d : Option Selection) (s t : Session) (r its : Record) (more : List Record) : Type 0 where
  rest : List Record
  due : Bool
  first : (output : List Record → RunOutput) → piped c output s (r ∷ more) ≡ with_due due (output (its ∷ rest))
  next : (output : List Record → RunOutput) → with_due due (output rest) ≡ piped d output t more

same_head : (a b : Head) → Some a ≡ Some b → a ≡ b
same_head a b e = cc

module _ (s : Session) (head : Head) (raw body : List ℕ) where
  abbrev under : Head → Record
  under h = record { head = h; raw = raw; body = body }

  piped_as : (c d : Option Selection) (written : Head) → IsAdmitted s c d head body (Some written) → (t : Session)
      → t ≡ (judge s (under written)).session → (more : List Record)
      → IsPipedAs c d s t (under head) (under written) more
  piped_as None d written admitted t session more = record {
    rest = more;
    due = false;
    first = λ output. ap (λ (h : Head). output (under h ∷ more)) (sym (same_head written head admitted.1));
    next = λ output. ap (λ (x : Option Selection). piped x output t more) (sym admitted.0);
  }
  piped_as (Some c) None written admitted t session more = absurd admitted
  piped_as (Some c) (Some d) written admitted t session more =
      let its_is : under written ≡ with_line c (under head) = ap under admitted.head_is in
      let k = kept_in (judge s (under head)).session (after_kept c head body) more in
      record {
        rest = k.records;
        due = k.due;
        first = λ output.
            ap (output_of_kept output) (kept_true s c (under head) more admitted.stays)
            ∙ ap (λ (q : Record). with_due k.due (output (q ∷ k.records))) (sym its_is);
        next = λ output. ap (output_of_kept output)
            (ap (λ (u : Session). kept_in u (after_kept c head body) more)
            (sym (session ∙ ap (λ (q : Record). (judge s q).session) its_is))
            ∙ ap (λ (x : Selection). kept_in t x more) (sym admitted.selection));
      }

  pub printed : (c d : Option Selection) (written : Head) → IsAdmitted s c d head body (Some written) → (t : Session)
      → t ≡ (judge s (record { head = written; raw = raw; body = body })).session
      → (output next : List Record → RunOutput) (bytes : List ℕ) (end : Option Outcome)
      → ((more : List Record) → output (record { head = written; raw = raw; body = body } ∷ more)
      ≡ after bytes end (next more)) → (more : List Record)
      → piped c output s (record { head = head; raw = raw; body = body } ∷ more) ≡ after bytes end (piped d next t more)
  printed c d written admitted t session output next bytes end step more =
      let p = piped_as c d written admitted t session more in
      p.first output ∙ ap (with_due p.due) (step p.rest) ∙ due_after p.due bytes end (next p.rest)
      ∙ ap (after bytes end) (p.next next)

  pub failed : (c d : Option Selection) (written : Head) → IsAdmitted s c d head body (Some written)
      → (output : List Record → RunOutput) (fault : EngineFault)
      → (fault ≡ NoMemory) ⊎ (IsRecordFault fault × ((more : List Record)
      → output (record { head = written; raw = raw; body = body } ∷ more) ≡ stopped [] (Err fault)))
      → (fault ≡ NoMemory) ⊎ (IsRecordFault fault × ((more : List Record)
      → piped c output s (record { head = head; raw = raw; body = body } ∷ more) ≡ stopped [] (Err fault)))
  failed c d written admitted output fault (inl memory) = inl memory
  failed c d written admitted output fault (inr ended) = inr (
    ended.0,
    λ more. let p = piped_as c d written admitted (judge s (under written)).session refl more in
        p.first output ∙ ap (with_due p.due) (ended.1 p.rest),
  )

-- What a call's clauses say where it succeeds, and where it fails.
pub when_ok : {A E Q : Type 0} {P R : A → Type 0} (r : Result A E) → (Q → (a : A) → P a → R a) → OnOk r Q → IfOk r P
    → IfOk r R
when_ok (Ok a) follows q p = follows q a p
when_ok (Err e) follows q p = tt

pub when_err : {A E : Type 0} {P Q : E → Type 0} (r : Result A E) → ((e : E) → P e → Q e) → IfErr r P → IfErr r Q
when_err (Ok a) follows p = tt
when_err (Err e) follows p = follows e p

-- ---- all records

abbrev IsLonger : Kept → Kept → Type 0
IsLonger k j = (others : List Record) × (k.records ≡ j.records ++ others)

longer_if : (b : Bool) (x y u v : Kept) → IsLonger x u → IsLonger y v → IsLonger (cond b x y) (cond b u v)
longer_if true x y u v p q = p
longer_if false x y u v p q = q

-- More records, of which more stay.
kept_more : (s : Session) (c : Selection) (rs more : List Record) → IsLonger (kept_in s c (rs ++ more)) (kept_in s c rs)
kept_more s c [] more = ((kept_in s c more).records, refl)
kept_more s c (q ∷ rs) more =
    let t = (judge s q).session in
    let d = after_kept c q.head q.body in
    let e = after_left_out c q.head in
    let inner = kept_more t d rs more in
    longer_if (record_stays s c.waiting q.head.side q.body) (kept_first (with_line c q) (kept_in t d (rs ++ more)))
    (kept_in s e (rs ++ more)) (kept_first (with_line c q) (kept_in t d rs)) (kept_in s e rs)
    (inner.0, ap (λ ks. with_line c q ∷ ks) inner.1) (kept_more s e rs more)

-- After a record that ended the run nothing is due.
none_due : (c : RunOutput) → ((line_due : Bool) → c.last line_due ≡ []) → (due other : Bool)
    → with_due due c ≡ with_due other c
none_due c silent due other = λ i. record c { last = λ b. (silent (due || b) ∙ sym (silent (other || b))) i }

-- An output of the records that stay goes on as that of all records.
kept_extends : (s : Session) (c : Selection) (g : List Record → RunOutput) → ExtendsAll g
    → ExtendsAll (λ rs. output_of_kept g (kept_in s c rs))
kept_extends s c g all rs more =
    let longer = kept_more s c rs more in
    let k = kept_in s c rs in
    let due = (kept_in s c (rs ++ more)).due in
    let rest = all k.records longer.0 in
    record {
      rest = rest.rest;
      grows = ap (λ (xs : List Record). (g xs).out) longer.1 ∙ rest.grows;
      settles = λ answer e.
          ap (λ (xs : List Record). with_due due (g xs)) longer.1 ∙ ap (with_due due) (rest.settles answer e)
          ∙ none_due (g k.records) (rest.silent answer e) due k.due;
      silent = λ answer e line_due. rest.silent answer e (k.due || line_due);
    }

pub run_of_piped : {State : Type 0} (view : View State) (state : State) (s : Session) (c : Option Selection)
    (in_parts : Bool) {log_rules : LogRules} {flushes : Bool} {OnePart : Type 0} {max_turns : ℕ}
    {before after : Ports} {result : Result Outcome EngineFault} → (in_parts ≡ false → OnePart)
    → IsLoopRun log_rules (piped c (output_in view state s) s) flushes OnePart max_turns before after result
    → IsEngineRun (record {
      log_rules = log_rules;
      run_output = piped c (output_in view state s) s;
      flushes = flushes;
      in_parts = in_parts;
    }) max_turns before after result
run_of_piped view state s None in_parts one run = run_of view state s in_parts one run
run_of_piped view state s (Some c) in_parts one run =
    run_of_course (piped (Some c) (output_in view state s) s)
    (kept_extends s c (output_in view state s) (extends view state s)) in_parts one run
