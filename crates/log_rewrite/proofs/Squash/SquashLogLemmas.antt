-- What `normalise` writes of a log with squash is a log, of which `replay` reports the same, and of which the same is
-- written.
use Rattle.log_rewrite.proofs.Prelude.{Bool, List, None, Option, Some, [], ap, append-nil, append_assoc, arith, bytes_eq, false, length, refl, subst, sym, true, ℕ, ⊎_elim, ◌++◌, ◌+◌, ◌∙◌, ◌∷◌, ◌≡◌, ◌≢◌, cases_Bool, place_after, AreInRange, LimitsData, due_after, AreRecords, IsRecord, Log, Record, is_line_due, line_of, record_bytes, together, Version, reading, ChangeData, canonical_if, change_in, front_of, line_if, log_config, replaying, all_of, RunOutput, written_first, Session, answered, bad, judge, opened, squashed, run_output_in, OpenSeries, Step, end_bytes, other_step, squash_step, squash_view, squashed_in, SquashedLaw, changed, incoming_of}
use Rattle.lsp_log.proofs.LogLemmas.{due_now}
use Rattle.log_session.proofs.CourseLemmas.{IsReportedAs, ended_as, line_first, reads_back, reported_by, went_on}
use Rattle.log_rewrite.proofs.Squash.SeriesLemmas.{squashed_at}
use Rattle.log_rewrite.proofs.Squash.KindLemmas.{IsAccepted, IsOtherKind, IsChangeKind, kind_of, not_bad_of, was_accepted}
use Rattle.log_session.proofs.Records.JudgeLemmas.{judged_held}
use Rattle.log_session.proofs.Records.NumberedLemmas.{IsAlike, alike_self, judged_alike}
use Rattle.log_rewrite.proofs.Squash.PendingLemmas.{IsPending, none_ended, some_ended}
use Rattle.log_rewrite.proofs.Squash.StepLemmas.{IsSeriesStep, begun_series, longer_series}
use Rattle.log_rewrite.proofs.Squash.PrintLemmas.{step_other}
use Rattle.log_rewrite.proofs.Squash.SquashLawLemmas.{IsApart, IsEnded, IsSquashedAs, at_end, behind, due_more, no_run, one_run, then_run}
use Rattle.log_session.proofs.Records.StateLemmas.{IsHeldState}

-- How far a log and what was written of it have come, between two records.
abbrev IsAfter : ℕ → ℕ → Version → Bool → Bool → Session → Option OpenSeries → Session → Option OpenSeries → Type 0
IsAfter max_body at version due due_in s None t before = (before ≡ None) × IsAlike s t × (due ≡ due_in)
IsAfter max_body at version due due_in s (Some series) t before = IsPending max_body at version due s series t before
    × (due_in ≡ false)

module _ (limits : LimitsData) (ranges : AreInRange limits) where
  all_ended : (at : ℕ) (version : Version) (due due_in : Bool) (s : Session) (series : Option OpenSeries) (t : Session)
      (before : Option OpenSeries) → IsHeldState limits t.server
      → IsAfter limits.max_body at version due due_in s series t before
      → IsEnded limits.max_body at version due due_in s series t before
  all_ended at version due due_in s None t before received is =
      subst (λ (b : Option OpenSeries). IsEnded limits.max_body at version due due_in s None t b) (sym is.0)
      (none_ended limits.max_body at version due due_in s t is.1 is.2)
  all_ended at version due due_in s (Some series) t before received is =
      some_ended limits ranges at version due due_in s series t before received.limit is.0 is.1

  held_alike : (s t : Session) → IsAlike s t → IsHeldState limits s.server → IsHeldState limits t.server
  held_alike s t like received =
      subst (IsHeldState limits) (sym (ap (λ (u : Session). u.server) like.2)) received

  -- ---- one record, and those behind it

  module _ (at place : ℕ) (version : Version) (due due_in : Bool) (s : Session) (series : Option OpenSeries)
      (t : Session) (before : Option OpenSeries) (r : Record) (rs : List Record)
      (received : IsHeldState limits s.server) (held_out : IsHeldState limits t.server)
      (is_after : IsAfter limits.max_body at version due due_in s series t before)
      (is : IsRecord limits.max_body version place due_in r)
      (goes : (squashed_in (judge s r).session (squash_step s series r (judge s r)).series rs).stop ≡ None)
      (rest : (at : ℕ) (due : Bool) (series : Option OpenSeries) (t : Session) (before : Option OpenSeries)
      → IsHeldState limits t.server → IsAfter limits.max_body at version due false (judge s r).session series t before
      → (squashed_in (judge s r).session series rs).stop ≡ None → IsSquashedAs limits.max_body at version due false
      (judge s r).session series rs t before) where
    abbrev change : Option ChangeData
    change = change_in (incoming_of (reading r.body))

    abbrev IsWritten : Type 0
    IsWritten = IsSquashedAs limits.max_body at version due due_in s series (r ∷ rs) t before

    e : IsEnded limits.max_body at version due due_in s series t before
    e = all_ended at version due due_in s series t before held_out is_after

    due_r : r.head.line_due ≡ due_after due e.us
    due_r = is.due ∙ e.same_due

    abbrev next_at : ℕ
    next_at = at + length (together version e.us [])

    goes_by : (step : Step) → squash_step s series r (judge s r) ≡ step
        → (squashed_in (judge s r).session step.series rs).stop ≡ None
    goes_by step gives =
        subst (λ (step : Step). (squashed_in (judge s r).session step.series rs).stop ≡ None) gives goes

    -- a record that is written as it is
    module _ (kind : IsOtherKind s.server change (judge s r).verdict) where
      abbrev q : Record
      q = record r { head = record r.head { place = place_after 0 next_at } }

      alike : ((judge e.last r).verdict ≡ (judge s r).verdict) × IsAlike (judge s r).session (judge e.last r).session
      alike = judged_alike s e.last r e.like

      not_bad_last : (judge e.last r).verdict ≢ bad
      not_bad_last f = kind.0 (sym alike.0 ∙ f)

      none_last : canonical_if e.last.server change (judge e.last r).verdict ≡ None
      none_last = ap (λ (u : Session). canonical_if u.server change (judge e.last r).verdict) e.like.2
          ∙ ap (canonical_if s.server change) alike.0 ∙ kind.1

      gives_other : squash_step s series r (judge s r) ≡ other_step r (front_of r.head) series
      gives_other = step_other s.server r (front_of r.head) series change (judge s r).verdict kind.0 kind.1

      others : IsWritten
      others =
          let later : ℕ = at + length (together version (e.us ++ q ∷ []) []) in
          behind
          (then_run e.run next_at refl
          (one_run limits.max_body next_at version (due_after due e.us) e.last e.left q (record {
            is_frame_of = is.is_frame_of;
            side = is.side;
            of_version = is.of_version;
            placed = refl;
            due = due_r;
          }) not_bad_last (end_bytes e.left ++ (front_of r.head ++ r.raw)) None
          (step_other e.last.server q (front_of q.head) e.left change (judge e.last q).verdict not_bad_last none_last)))
          (append-nil (end_bytes before ++ (end_bytes e.left ++ (front_of r.head ++ r.raw)))
          ∙ ap (λ z. end_bytes before ++ (z ++ (front_of r.head ++ r.raw))) e.same_bytes)
          later refl s series r rs None gives_other kind.0
          (rest later (due_after due (e.us ++ q ∷ [])) None (judge e.last q).session None
          (held_alike (judge s r).session (judge e.last q).session alike.1 (judged_held limits s r received))
          (refl, alike.1, due_more due e.us (q ∷ [])) (goes_by (other_step r (front_of r.head) series) gives_other))

    -- an accepted change
    module _ (kind : IsChangeKind s.server change (judge s r).verdict) where
      abbrev p : ChangeData
      p = kind.0

      accepted : IsAccepted s r p
      accepted = was_accepted s r p kind.1 kind.2

      not_bad : (judge s r).verdict ≢ bad
      not_bad f = let wrong : answered changed ≡ bad = sym kind.2 ∙ f in cc

      begins : IsApart series p.uri → IsWritten
      begins apart =
          let b : IsSeriesStep limits.max_body next_at version (due_after due e.us) s series r (end_bytes series) e.last
          e.left =
          subst (λ (u : Session). IsSeriesStep limits.max_body next_at version (due_after due e.us) s series r
          (end_bytes series) u e.left) (sym e.like.2)
          (begun_series limits ranges next_at version (due_after due e.us) s r p is.of_version received accepted kind.3
          series e.like.0 e.like.1 e.left apart (e.apart p.uri apart) due_r) in
          behind e.run (ap (λ z. end_bytes before ++ z) e.same_bytes) next_at refl s series r rs (Some b.next) b.writes
          not_bad
          (rest next_at (due_after due e.us) (Some b.next) e.last e.left (held_alike s e.last e.like received)
          (b.pending, refl) (goes_by _ b.writes))

      continues : (open_series : OpenSeries) → series ≡ Some open_series → bytes_eq p.uri open_series.squash.uri ≡ true
          → IsPending limits.max_body at version due s open_series t before → due_in ≡ false → IsWritten
      continues open_series is_series same pending not_due =
          let l : IsSeriesStep limits.max_body at version due s (Some open_series) r [] t before =
          longer_series limits ranges at version due s r p is.of_version received accepted kind.3 open_series t before
          pending same (is.due ∙ not_due) in
          let writes = ap (λ o. squash_step s o r (judge s r)) is_series ∙ l.writes in
          behind (no_run limits.max_body at version due t before) (sym (append-nil (end_bytes before))) at (omega arith)
          s series r rs (Some l.next) writes not_bad
          (rest at due (Some l.next) t before held_out (l.pending, refl) (goes_by _ writes))

    changes : (kind : IsChangeKind s.server change (judge s r).verdict) (o : Option OpenSeries) → series ≡ o → IsWritten
    changes kind None is = begins kind (subst (λ (x : Option OpenSeries). IsApart x kind.0.uri) (sym is) tt)
    changes kind (Some open_series) is =
        ⊎_elim
        (λ (same : bytes_eq kind.0.uri open_series.squash.uri ≡ true).
        let here : IsAfter limits.max_body at version due due_in s (Some open_series) t before =
        subst (λ (x : Option OpenSeries). IsAfter limits.max_body at version due due_in s x t before) is is_after in
        continues kind open_series is same here.0 here.1)
        (λ (not : bytes_eq kind.0.uri open_series.squash.uri ≡ false). begins kind
        (subst (λ (x : Option OpenSeries). IsApart x kind.0.uri) (sym is) not))
        (cases_Bool (bytes_eq kind.0.uri open_series.squash.uri))

    one_record : (squash_step s series r (judge s r)).end ≡ None → IsWritten
    one_record none =
        ⊎_elim (λ (kind : IsOtherKind s.server change (judge s r).verdict). others kind)
        (λ (kind : IsChangeKind s.server change (judge s r).verdict). changes kind series refl)
        (kind_of s.server r (front_of r.head) series change (judge s r).verdict none)

  squashed_log : (rs : List Record) (at place : ℕ) (version : Version) (due due_in : Bool) (s : Session)
      (series : Option OpenSeries) (t : Session) (before : Option OpenSeries) → IsHeldState limits s.server →
      IsHeldState limits t.server
      → IsAfter limits.max_body at version due due_in s series t before → AreRecords limits.max_body version place
      due_in rs → (squashed_in s series rs).stop ≡ None
      → IsSquashedAs limits.max_body at version due due_in s series rs t before
  squashed_log [] at place version due due_in s series t before received held_out is_after each goes =
      at_end (all_ended at version due due_in s series t before held_out is_after)
  squashed_log (r ∷ rs) at place version due due_in s series t before received held_out is_after each goes =
      let on = went_on (squash_step s series r (judge s r)).out (squash_step s series r (judge s r)).end
      (squashed_in (judge s r).session (squash_step s series r (judge s r)).series rs) goes in
      one_record at place version due due_in s series t before r rs received held_out is_after each.0 on.1
      (λ next_at next_due next_series next_t next_before next_held next_stands next_goes.
      squashed_log rs next_at (place + length (record_bytes version r)) version next_due false (judge s r).session
      next_series next_t next_before (judged_held limits s r received) next_held next_stands each.1 next_goes)
      on.0

-- ---- the bytes

-- What `normalise` writes of a log with squash is a log, of which `replay` reports the same, and of which the same is
-- written.
pub squashed_law : SquashedLaw
squashed_law settings ranges input log reads whole goes = record {
  outcome = ap (λ (c : RunOutput). c.outcome) here
      ∙ (ended_as squash_view (λ series u r e. not_bad_of u.server r (front_of r.head) series
      (change_in (incoming_of (reading r.body))) (judge u r).verdict e) (λ series u. refl) None s log.records
      steps_go).0;
  leaves = record {
    log = next;
    reads = reads_back settings log.version w.qs bytes w.run.are is;
    whole = refl;
    to_end = ap (λ (c : RunOutput). c.stop) replayed;
    documents = reported.documents;
    status = reported.status;
    refused = reported.refused;
  };
  continues = ap (λ (c : RunOutput). c.stop) course;
  again =
      ap (λ (c : RunOutput). c.out ++ c.last (is_line_due log.version w.qs)) course
      ∙ ap (λ z. z ++ (end_bytes w.left ++ line_if (is_line_due log.version w.qs))) (append-nil w.out)
      ∙ sym (append_assoc w.out (end_bytes w.left) (line_if (is_line_due log.version w.qs)))
      ∙ ap (λ z. z ++ line_if (is_line_due log.version w.qs)) w.ends
      ∙ ap (λ b. w.bytes ++ line_if b) (sym (due_now log.version w.qs) ∙ sym same_due) ∙ sym all;
}
  where
    s : Session
    s = opened (log_config settings)

    here : squashed settings log.records ≡ squashed_in s None log.records
    here = squashed_at settings log.records

    steps_go : (squashed_in s None log.records).stop ≡ None
    steps_go = sym (ap (λ (c : RunOutput). c.stop) here) ∙ goes

    w : IsSquashedAs settings.limits.max_body (length (line_of log.version)) log.version (is_line_due log.version [])
        (is_line_due log.version []) s None log.records s None
    w =
        squashed_log settings.limits ranges log.records (length (line_of log.version)) (length (line_of log.version))
        log.version (is_line_due log.version []) (is_line_due log.version []) s None s None
        (record { limit = refl; table = tt }) (record { limit = refl; table = tt }) (refl, alike_self s, refl)
        reads.each steps_go

    next : Log
    next = record { version = log.version; records = w.qs; rest = [] }

    bytes : List ℕ
    bytes = all_of (squashed settings) log

    same_due : is_line_due log.version log.records ≡ due_after (is_line_due log.version []) w.qs
    same_due = sym (due_now log.version log.records) ∙ w.same_due

    all : bytes ≡ w.bytes ++ line_if (is_line_due log.version log.records)
    all = ap (λ (c : RunOutput). c.out ++ c.last (is_line_due log.version log.records)) here
        ∙ w.all (is_line_due log.version log.records)

    is : bytes ≡ line_of log.version ++ together log.version w.qs []
    is =
        all ∙ ap (λ b. w.bytes ++ line_if b) same_due
        ∙ ap (λ z. w.bytes ++ z) (sym (append-nil (line_if (due_after (is_line_due log.version []) w.qs))))
        ∙ w.run.is [] ∙ ap (λ z. z ++ together log.version w.qs []) (line_first log.version)

    -- the same of what was written
    course : squashed settings w.qs ≡ written_first w.out (squashed_in w.last w.left [])
    course = squashed_at settings w.qs ∙ ap (squashed_in s None) (sym (append-nil w.qs)) ∙ w.run.run_output []

    replayed : run_output_in replaying s w.qs ≡ run_output_in replaying w.last []
    replayed = ap (run_output_in replaying s) (sym (append-nil w.qs)) ∙ w.run.replay []

    reported : IsReportedAs (run_output_in replaying s w.qs) (run_output_in replaying s log.records)
    reported = reported_by _ _ _ _ replayed refl w.reported
