-- What `normalise` writes of a log with squash, a part at a time: records that lead to the same documents, and of which
-- the same is written.
use Rattle.log_rewrite.proofs.Prelude.{Bool, List, None, Option, Some, [], ap, append_assoc, arith, bytes_eq, false, length, refl, subst, sym, ℕ, ◌++◌, ◌+◌, ◌∙◌, ◌∷◌, ◌≡◌, ◌≢◌, common_steps, length-append, ⊤, due_after, AreRecords, IsRecord, Record, record_bytes, together, Version, followed_by, front_of, line_if, replaying, RunOutput, written_first, Session, bad, judge, run_output_in, OpenSeries, Step, end_bytes, squash_step, squashed_in}
use Rattle.log_session.proofs.CourseLemmas.{IsReportedAs, none_due, report_on, reported_by, reported_end}
use Rattle.log_session.proofs.Records.NumberedLemmas.{IsAlike}

-- ---- records one after another

together_more : (version : Version) (rs more : List Record) (rest : List ℕ) → together version (rs ++ more) rest
    ≡ together version rs (together version more rest)
together_more version [] more rest = refl
together_more version (r ∷ rs) more rest = ap (λ z. record_bytes version r ++ z) (together_more version rs more rest)

are_more : (max_body : ℕ) (version : Version) (place : ℕ) (due : Bool) (rs more : List Record)
    → AreRecords max_body version place due rs
    → AreRecords max_body version (place + length (together version rs [])) (due_after due rs) more
    → AreRecords max_body version place due (rs ++ more)
are_more max_body version place due [] more each also =
    subst (λ n. AreRecords max_body version n due more) (omega arith) also
are_more max_body version place due (r ∷ rs) more each also = (
  each.0,
  are_more max_body version (place + length (record_bytes version r)) false rs more each.1
      (grind (arith, common_steps, length-append, none_due)),
)

pub due_more : (due : Bool) (rs more : List Record) → due_after due (rs ++ more) ≡ due_after (due_after due rs) more
due_more due [] more = refl
due_more due (r ∷ rs) more = sym (none_due more)

-- ---- a part of what is written

-- A squashed log, by a step that is known and goes on.
step_on : (s : Session) (series : Option OpenSeries) (r : Record) (rs : List Record) (out : List ℕ) (next : Option
    OpenSeries)
    → squash_step s series r (judge s r) ≡ record { out = out; end = None; series = next }
    → squashed_in s series (r ∷ rs) ≡ written_first out (squashed_in (judge s r).session next rs)
step_on s series r rs out next is =
    ap (λ (step : Step). followed_by step.out step.end (squashed_in (judge s r).session step.series rs)) is

-- Records with these bytes: read again they give `out`, and lead from one session and open series to another.
pub record IsRun (max_body at : ℕ) (version : Version) (due : Bool) (t : Session) (before : Option OpenSeries)
    (us : List Record) (bytes out : List ℕ) (last : Session) (left : Option OpenSeries) : Type 0 where
  pub are : AreRecords max_body version at due us
  pub is : (rest : List ℕ)
      → bytes ++ (line_if (due_after due us) ++ rest) ≡ line_if due ++ together version us rest
  pub run_output : (more : List Record) → squashed_in t before (us ++ more) ≡ written_first out
      (squashed_in last left more)
  pub replay : (more : List Record) → run_output_in replaying t (us ++ more) ≡ run_output_in replaying last more

pub no_run : (max_body at : ℕ) (version : Version) (due : Bool) (t : Session) (before : Option OpenSeries)
    → IsRun max_body at version due t before [] [] [] t before
no_run max_body at version due t before =
    record { are = tt; is = λ rest. refl; run_output = λ more. refl; replay = λ more. refl }

pub one_run : (max_body at : ℕ) (version : Version) (due : Bool) (t : Session) (before : Option OpenSeries) (q : Record)
    → IsRecord max_body version at due q → (judge t q).verdict ≢ bad → (out : List ℕ) (left : Option OpenSeries)
    → squash_step t before q (judge t q) ≡ record { out = out; end = None; series = left }
    → IsRun max_body at version due t before (q ∷ []) (front_of q.head ++ q.raw) out (judge t q).session left
one_run max_body at version due t before q is not_bad out left goes = record {
  are = (is, tt);
  is = λ rest. grind (arith, common_steps, append_assoc);
  run_output = λ more. step_on t before q more out left goes;
  replay = λ more. report_on t q more not_bad;
}

module _ {max_body at : ℕ} {version : Version} {due : Bool} {t u last : Session} {before mid left : Option OpenSeries}
    {us vs : List Record} {bytes more_bytes out more_out : List ℕ}
    (first : IsRun max_body at version due t before us bytes out u mid) (next_at : ℕ)
    (placed : next_at ≡ at + length (together version us []))
    (more : IsRun max_body next_at version (due_after due us) u mid vs more_bytes more_out last left) where
  pub then_run : IsRun max_body at version due t before (us ++ vs) (bytes ++ more_bytes) (out ++ more_out) last left
  then_run = record {
    are = are_more max_body version at due us vs first.are
        (subst (λ n. AreRecords max_body version n (due_after due us) vs) placed more.are);
    is = λ rest. grind (arith, common_steps, append_assoc, due_more, together_more, first.is, more.is);
    run_output = λ others.
        let end = squashed_in last left others in
        ap (squashed_in t before) (append_assoc us vs others) ∙ first.run_output (vs ++ others)
        ∙ ap (written_first out) (more.run_output others)
        ∙ ap (λ z. record end { out = z }) (sym (append_assoc out more_out end.out));
    replay = λ others. ap (run_output_in replaying t) (append_assoc us vs others) ∙ first.replay (vs ++ others)
        ∙ more.replay others;
  }

-- no series is open, or one of a document with another URI
abbrev pub IsApart : Option OpenSeries → List ℕ → Type 0
IsApart None uri = ⊤
IsApart (Some series) uri = bytes_eq uri series.squash.uri ≡ false

-- ---- what is written of the records up to now

-- The records that are written of the open series, once it has ended.
pub record IsEnded (max_body at : ℕ) (version : Version) (due due_in : Bool) (s : Session) (series : Option OpenSeries)
    (t : Session) (before : Option OpenSeries) : Type 0 where
  pub us : List Record
  pub last : Session
  pub left : Option OpenSeries
  pub like : IsAlike s last
  pub same_bytes : end_bytes left ≡ end_bytes series
  pub apart : (uri : List ℕ) → IsApart series uri → IsApart left uri
  pub run : IsRun max_body at version due t before us (end_bytes series) (end_bytes before) last left
  pub same_due : due_in ≡ due_after due us

-- The records that are written of some, with those of the open series.
pub record IsSquashedAs (max_body at : ℕ) (version : Version) (due due_in : Bool) (s : Session)
    (series : Option OpenSeries) (rs : List Record) (t : Session) (before : Option OpenSeries) : Type 0 where
  pub qs : List Record
  pub bytes : List ℕ
  pub out : List ℕ
  pub last : Session
  pub left : Option OpenSeries
  pub run : IsRun max_body at version due t before qs bytes out last left
  pub all : (b : Bool)
      → (squashed_in s series rs).out ++ (squashed_in s series rs).last b ≡ bytes ++ line_if b
  pub ends : out ++ end_bytes left ≡ end_bytes before ++ bytes
  pub same_due : due_after due_in rs ≡ due_after due qs
  pub reported : IsReportedAs (run_output_in replaying last []) (run_output_in replaying s rs)

-- At the end of the input.
pub at_end : {max_body at : ℕ} {version : Version} {due due_in : Bool} {s t : Session}
    {series before : Option OpenSeries} → IsEnded max_body at version due due_in s series t before
    → IsSquashedAs max_body at version due due_in s series [] t before
at_end {s = s} {series = series} {before = before} e = record {
  qs = e.us;
  bytes = end_bytes series;
  out = end_bytes before;
  last = e.last;
  left = e.left;
  run = e.run;
  all = λ b. refl;
  ends = ap (λ z. end_bytes before ++ z) e.same_bytes;
  same_due = e.same_due;
  reported = reported_end s e.last e.like;
}

-- What is written at a record, and then what is written of those behind it.
module _ {max_body at : ℕ} {version : Version} {due due_in : Bool} {t u : Session} {before mid : Option OpenSeries}
    {us : List Record} {bytes out : List ℕ} (run : IsRun max_body at version due t before us bytes out u mid)
    (ends : out ++ end_bytes mid ≡ end_bytes before ++ bytes) (next_at : ℕ)
    (placed : next_at ≡ at + length (together version us [])) (s : Session) (series : Option OpenSeries) (r : Record)
    (rs : List Record) (next : Option OpenSeries)
    (goes : squash_step s series r (judge s r) ≡ record { out = bytes; end = None; series = next })
    (not_bad : (judge s r).verdict ≢ bad)
    (more : IsSquashedAs max_body next_at version (due_after due us) false (judge s r).session next rs u mid) where
  pub behind : IsSquashedAs max_body at version due due_in s series (r ∷ rs) t before
  behind = record {
    qs = us ++ more.qs;
    bytes = bytes ++ more.bytes;
    out = out ++ more.out;
    last = more.last;
    left = more.left;
    run = then_run run next_at placed more.run;
    all = λ b.
        let rest = squashed_in (judge s r).session next rs in
        ap (λ (c : RunOutput). c.out ++ c.last b) (step_on s series r rs bytes next goes)
        ∙ append_assoc bytes rest.out (rest.last b) ∙ ap (λ z. bytes ++ z) (more.all b)
        ∙ sym (append_assoc bytes more.bytes (line_if b));
    ends = append_assoc out more.out (end_bytes more.left) ∙ ap (λ z. out ++ z) more.ends
        ∙ sym (append_assoc out (end_bytes mid) more.bytes) ∙ ap (λ z. z ++ more.bytes) ends
        ∙ append_assoc (end_bytes before) bytes more.bytes;
    same_due = sym (none_due rs) ∙ more.same_due ∙ sym (due_more due us more.qs);
    reported = reported_by _ _ _ _ refl (report_on s r rs not_bad) more.reported;
  }
