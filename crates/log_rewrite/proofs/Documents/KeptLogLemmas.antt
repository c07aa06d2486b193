-- The records that stay, as a log of their own.
use Rattle.log_rewrite.proofs.Prelude.{Bool, List, None, Option, Some, [], ap, ap₂, arith, false, length, refl, subst, sym, true, ℕ, ◌+◌, ◌||◌, ◌∙◌, ◌∷◌, ◌≡◌, ◌≢◌, cases_Bool, cond_both, common_steps, Err, Result, place_after, due_after, AreRecords, Record, record_bytes, Version, reading, ChangeData, RecordOutput, View, canonical_if, change_in, followed_by, front_of, normalising, output_in, replaying, unless_bad, written, Kept, Selection, after_kept, after_left_out, is_due, kept_first, kept_in, record_stays, with_line, Session, Verdict, bad, judge, Outcome, run_output_in, OpenSeries, Step, squash_view, step_if, incoming_of, ServerData, EngineFault, BadLog}
use Rattle.log_session.proofs.CourseLemmas.{IsReportedAs, none_due, passed, report_on, reported_by, reported_end, went_on}
use Rattle.log_rewrite.proofs.Documents.LeftOutLemmas.{IsHarmless, harmless, stays_alike}
use Rattle.log_session.proofs.Records.NumberedLemmas.{IsAlike, alike_both, judged_alike}
use Rattle.log_rewrite.proofs.Squash.StopLemmas.{stop_on}

-- what holds of the records that stay, by both cases of the first
kept_cases : (s : Session) (c : Selection) (r : Record) (rs : List Record) (P : Kept → Type 0)
    → (record_stays s c.waiting r.head.side r.body ≡ true
    → P (kept_first (with_line c r) (kept_in (judge s r).session (after_kept c r.head r.body) rs)))
    → (record_stays s c.waiting r.head.side r.body ≡ false → P (kept_in s (after_left_out c r.head) rs))
    → P (kept_in s c (r ∷ rs))
kept_cases s c r rs P stays left = cond_both (record_stays s c.waiting r.head.side r.body) _ _ P stays left

-- ---- what a record gives

-- It depends on the server and on the verdict.
abbrev single : ServerData → Record → Verdict → RecordOutput
single server r v =
    unless_bad r v (written server.config.limits.max_body r (front_of r.head)
    (canonical_if server (change_in (incoming_of (reading r.body))) v))

-- The line of version 2 doesn't decide how a record ends the run.
line_end : (server : ServerData) (c : Selection) (r : Record) (v : Verdict) → (single server (with_line c r) v).end
    ≡ (single server r v).end
line_end server c r v = grind (arith, common_steps, cases_Bool)

single_none : (server : ServerData) (r : Record) (v : Verdict) → v ≢ bad
    → canonical_if server (change_in (incoming_of (reading r.body))) v ≡ None → (single server r v).end ≡ None
single_none server r v not_bad none = grind (arith, common_steps)

-- ---- records at other places

abbrev pub located : ℕ → Record → Record
located at r = record r { head = record r.head { place = place_after 0 at } }

abbrev pub located_all : ℕ → Version → List Record → List Record
located_all at version [] = []
located_all at version (r ∷ rs) = located at r ∷ located_all (at + length (record_bytes version r)) version rs

or_false : (b : Bool) → (b || false) ≡ b
or_false true = refl
or_false false = refl

pub located_due : (version : Version) (at : ℕ) (due : Bool) (rs : List Record)
    → due_after due (located_all at version rs) ≡ due_after due rs
located_due version at due [] = refl
located_due version at due (r ∷ rs) = refl

-- ---- all records

-- The records that stay of some are those of a log.
pub record IsKeptLog (max_body at before : ℕ) (version : Version) (due : Bool) (s : Session) (rs : List Record)
    (t : Session) (c : Selection) (k : Kept) : Type 0 where
  pub stop : (run_output_in normalising t k.records).stop ≡ (run_output_in normalising s rs).stop
  -- `replay` reports the same documents of them, the same status and as many refusals
  pub reported : (run_output_in normalising s rs).stop ≡ None
      → IsReportedAs (run_output_in replaying t (located_all at version k.records)) (run_output_in replaying s rs)
  pub are : AreRecords max_body version before due rs
      → AreRecords max_body version at (c.due || due) (located_all at version k.records)
  -- whether the line of version 2 is still to be written after them
  pub same_due : AreRecords max_body version before due rs
      → (k.due || due_after due rs) ≡ due_after (c.due || due) k.records

module _ (max_body at before : ℕ) (version : Version) (due : Bool) (s : Session) (r : Record) (rs : List Record)
    (t : Session) (c : Selection) (k : Kept) (like : IsAlike s t) where
  goes_on : (run_output_in normalising s (r ∷ rs)).stop ≡ None
      → ((single s.server r (judge s r).verdict).end ≡ None)
      × ((run_output_in normalising (judge s r).session rs).stop ≡ None)
  goes_on goes = went_on (single s.server r (judge s r).verdict).out (single s.server r (judge s r).verdict).end
      (run_output_in normalising (judge s r).session rs) goes

  stays_first : IsKeptLog max_body (at + length (record_bytes version r)) (before + length (record_bytes version r))
      version false (judge s r).session rs (judge t r).session (after_kept c r.head r.body) k
      → IsKeptLog max_body at before version due s (r ∷ rs) t c (kept_first (with_line c r) k)
  stays_first more = record {
    stop =
        stop_on _ _ _ _ _ _
        (line_end t.server c r (judge t r).verdict
        ∙ ap (λ (u : Session). (single u.server r (judge t r).verdict).end) like.2
        ∙ ap (λ (v : Verdict). (single s.server r v).end) (judged_alike s t r like).0) more.stop;
    reported = λ goes.
        let on = goes_on goes in
        let not_bad : (judge s r).verdict ≢ bad = passed r (judge s r).verdict _ on.0 in
        reported_by _ _ _ _ (report_on t (located at (with_line c r)) (located_all
        (at + length (record_bytes version r)) version k.records)
        (λ (wrong : (judge t r).verdict ≡ bad). not_bad (sym (judged_alike s t r like).0 ∙ wrong)))
        (report_on s r rs not_bad) (more.reported on.1);
    are = λ each. (
      record {
        is_frame_of = each.0.is_frame_of;
        side = each.0.side;
        of_version = each.0.of_version;
        placed = refl;
        due = ap (λ b. c.due || b) each.0.due;
      },
      more.are each.1,
    );
    same_due = λ each. ap (λ b. k.due || b) (sym (none_due rs)) ∙ more.same_due each.1 ∙ none_due k.records;
  }

  left_first : IsHarmless s (change_in (incoming_of (reading r.body))) (judge s r)
      → IsKeptLog max_body at (before + length (record_bytes version r)) version false (judge s r).session rs t
      (after_left_out c r.head) k → IsKeptLog max_body at before version due s (r ∷ rs) t c k
  left_first h more = record {
    stop =
        more.stop
        ∙ sym (ap (λ (o : Option (Result Outcome EngineFault)).
        (followed_by (single s.server r (judge s r).verdict).out o
        (run_output_in normalising (judge s r).session rs)).stop)
        (single_none s.server r (judge s r).verdict h.not_bad h.none));
    reported = λ goes. reported_by _ _ _ _ refl (report_on s r rs h.not_bad) (more.reported (goes_on goes).1);
    are = λ each. subst (λ b. AreRecords max_body version at b (located_all at version k.records)) (is_same each.0.due)
        (more.are each.1);
    same_due = λ each. ap (λ b. k.due || b) (sym (none_due rs)) ∙ more.same_due each.1
        ∙ ap (λ b. due_after b k.records) (is_same each.0.due);
  }
    where
      is_same : r.head.line_due ≡ due → (is_due c r.head || false) ≡ (c.due || due)
      is_same e = or_false (is_due c r.head) ∙ ap (λ b. c.due || b) e

pub kept_log : (max_body at before : ℕ) (version : Version) (due : Bool) (s : Session) (rs : List Record) (t : Session)
    (c : Selection) → IsAlike s t → IsKeptLog max_body at before version due s rs t c (kept_in t c rs)
kept_log max_body at before version due s [] t c like =
    record { stop = refl; reported = λ goes. reported_end s t like; are = λ each. tt; same_due = λ each. refl }
kept_log max_body at before version due s (r ∷ rs) t c like =
    let len = length (record_bytes version r) in
    kept_cases t c r rs (λ (k : Kept). IsKeptLog max_body at before version due s (r ∷ rs) t c k)
    (λ e. stays_first max_body at before version due s r rs t c
    (kept_in (judge t r).session (after_kept c r.head r.body) rs) like
    (kept_log max_body (at + len) (before + len) version false (judge s r).session rs (judge t r).session
    (after_kept c r.head r.body) (judged_alike s t r like).1))
    (λ e.
    let h = harmless s c.waiting r (sym (stays_alike s t c.waiting r.head.side r.body like) ∙ e) in
    left_first max_body at before version due s r rs t c (kept_in t (after_left_out c r.head) rs) like h
    (kept_log max_body at (before + len) version false (judge s r).session rs t (after_left_out c r.head)
    (alike_both s (judge s r).session t h.alike like)))

-- ---- the same is written at other places

-- Where the records lie changes nothing of what a command writes.
abbrev pub IsPlaceless : {State : Type 0} → View State → Type 0
IsPlaceless {State} view = (state : State) (s : Session) (r : Record) (at : ℕ)
    → (view.record_output state s r (judge s r)).end ≡ None
    → (view.record_output state s (located at r) (judge s r) ≡ view.record_output state s r (judge s r))
    × (view.next state s (located at r) (judge s r) ≡ view.next state s r (judge s r))

module _ {State : Type 0} (view : View State) (same : IsPlaceless view) where
  pub located_output : (state : State) (s : Session) (rs : List Record) (at : ℕ) (version : Version)
      → (output_in view state s rs).stop ≡ None
      → output_in view state s (located_all at version rs) ≡ output_in view state s rs
  located_output state s [] at version goes = refl
  located_output state s (r ∷ rs) at version goes =
      let given = view.record_output state s r (judge s r) in
      let next = view.next state s r (judge s r) in
      let on = went_on given.out given.end (output_in view next (judge s r).session rs) goes in
      let here = same state s r at on.0 in
      let later = at + length (record_bytes version r) in
      ap₂ (λ (g : RecordOutput) (n : State). followed_by g.out g.end
      (output_in view n (judge s r).session (located_all later version rs))) here.0 here.1
      ∙ ap (followed_by given.out given.end) (located_output next (judge s r).session rs later version on.1)

located_written : (max_body at : ℕ) (r : Record) (front : List ℕ) (c : Option (List ℕ))
    → (written max_body r front c).end ≡ None → written max_body (located at r) front c ≡ written max_body r front c
located_written max_body at r front None e = refl
located_written max_body at r front (Some body) e = grind (arith, common_steps, cases_Bool)

located_single : (server : ServerData) (at : ℕ) (r : Record) (v : Verdict) → (single server r v).end ≡ None
    → single server (located at r) v ≡ single server r v
located_single server at r bad e = absurd (let wrong : Some (Err (BadLog r.head.place)) ≡ None = e in cc)
located_single server at r v e = located_written server.config.limits.max_body at r (front_of r.head)
    (canonical_if server (change_in (incoming_of (reading r.body))) v) e

pub each_placeless : IsPlaceless normalising
each_placeless _ s r at e = (located_single s.server at r (judge s r).verdict e, refl)

located_step : (server : ServerData) (at : ℕ) (r : Record) (front : List ℕ) (series : Option OpenSeries)
    (change : Option ChangeData) (v : Verdict) → (step_if server r front series change v).end ≡ None
    → step_if server (located at r) front series change v ≡ step_if server r front series change v
located_step server at r front series change v e = grind (arith, common_steps, cases_Bool)

pub squash_placeless : IsPlaceless squash_view
squash_placeless series s r at e =
    let same = located_step s.server at r (front_of r.head) series (change_in (incoming_of (reading r.body)))
    (judge s r).verdict e in
    (ap (λ (step : Step). record { out = step.out; end = step.end }) same, ap (λ (step : Step). step.series) same)
