-- The open series of a log that is squashed, and the records that are written of it.
use Rattle.log_rewrite.proofs.Prelude.{Bool, List, None, Option, Some, [], ap, arith, bytes_eq, false, length, nat_lt, refl, subst, sym, true, ℕ, ◌++◌, ◌∙◌, ◌∷◌, ◌≡◌, ◌≢◌, ◌≤◌, cases_Bool, ltb-false, common_steps, written_is_frame, place_after, frame, AreInRange, LimitsData, due_after, Record, mark_of, Client, Version, reading, ChangeData, DocumentItem, canonical_change_body, front_of, line_if, Session, answered, bad, judge, OpenSeries, change_output, end_bytes, joined_by, longer, open_bytes, squash_step, changed, incoming_of, ServerData, session_encoding, Running, change_body, SquashData, squash_batch, squash_body, squash_of, squash_refusal, Refusal, entry_at, if◌then◌else◌, is_none, squash_frame}
use Rattle.log_session.proofs.Changes.CanonicalChangeLemmas.{IsCanonicalChange, canonical_at, canonical_change}
use Rattle.log_rewrite.proofs.Squash.KindLemmas.{IsAccepted, IsDone, is_done}
use Rattle.log_session.proofs.Records.NumberedLemmas.{IsAlike, alike_both}
use Rattle.log_rewrite.proofs.Squash.OpenSeriesLemmas.{IsOpenFrom, one_batch, one_message, one_joins}
use Rattle.log_rewrite.proofs.Squash.SquashLawLemmas.{IsApart, IsEnded, IsRun, no_run, one_run}
use Rattle.log_rewrite.proofs.Squash.PrintLemmas.{step_changed}

-- The bytes of a series, by whether its one message is possible.
abbrev bytes_by : OpenSeries → Option Refusal → List ℕ
bytes_by series refusal = if is_none refusal then series.front ++ squash_frame series.squash else series.singles

-- The records that are written of an open series, if it isn't written as one message: they lead to the same series.
pub record IsPending (max_body at : ℕ) (version : Version) (due : Bool) (s : Session) (series : OpenSeries)
    (t : Session) (before : Option OpenSeries) : Type 0 where
  -- where it begins, and how its batches led to the server as it is now
  pub from : IsOpenFrom t.server series.squash s.server
  pub running : t.server.phase ≡ Running
  pub waits : t.expected ≡ None
  pub like : IsAlike (record t { server = s.server }) s
  pub apart : IsApart before series.squash.uri
  pub front : series.front ≡ line_if due ++ mark_of version Client
  -- its records as single messages
  pub us : List Record
  pub line : due_after due us ≡ false
  pub last : Session
  pub last_like : IsAlike s last
  pub singles : IsRun max_body at version due t before us series.singles (end_bytes before) last (Some series)

-- ---- what an accepted change gives

module _ (t : Session) (before : Option OpenSeries) (q : Record) (p : ChangeData) (a : IsAccepted t q p) (d : IsDone t
    q p)
    (short : length (canonical_change_body t.server p) ≤ t.server.config.limits.max_body) where
  abbrev its_front : List ℕ
  its_front = front_of q.head

  abbrev its_single : List ℕ
  its_single = its_front ++ frame (canonical_change_body t.server p)

  gives_change : squash_step t before q (judge t q) ≡ change_output t.server p its_front its_single before
  gives_change = grind (arith, common_steps, step_changed)

  -- it begins a series
  pub begun_step : (entry : DocumentItem) → entry_at t.server.table p.uri ≡ Some entry → IsApart before p.uri
      → squash_step t before q (judge t q) ≡ record {
        out = end_bytes before;
        end = None;
        series = Some (record {
          front = its_front;
          singles = its_single;
          squash = joined_by p (squash_of t.server.config.limits (session_encoding t.server) entry);
        });
      }
  begun_step entry found apart = grind (arith, common_steps, gives_change)

  -- it goes on with the open series
  pub longer_step : (series : OpenSeries) → before ≡ Some series → bytes_eq p.uri series.squash.uri ≡ true
      → squash_step t before q (judge t q) ≡ record { out = []; end = None; series = Some (longer series p its_single) }
  longer_step series is same = gives_change ∙ ap (change_output t.server p its_front its_single) is ∙ rw same refl

  pub not_bad : (judge t q).verdict ≢ bad
  not_bad e = let wrong : answered changed ≡ bad = sym d.error ∙ e in cc

-- ---- no series is open

pub none_ended : (max_body at : ℕ) (version : Version) (due due_in : Bool) (s t : Session) → IsAlike s t → due ≡ due_in
    → IsEnded max_body at version due due_in s None t None
none_ended max_body at version due due_in s t like same = record {
  us = [];
  last = t;
  left = None;
  like = like;
  same_bytes = refl;
  apart = λ uri apart. tt;
  run = no_run max_body at version due t None;
  same_due = sym same;
}

-- ---- the series ends

module _ (limits : LimitsData) (ranges : AreInRange limits) (at : ℕ) (version : Version) (due due_in : Bool)
    (s : Session) (series : OpenSeries) (t : Session) (before : Option OpenSeries)
    (limit : t.server.config.limits ≡ limits) (p : IsPending limits.max_body at version due s series t before)
    (not_due : due_in ≡ false) where
  in_singles : (refusal : Refusal) → squash_refusal series.squash ≡ Some refusal
      → IsEnded limits.max_body at version due due_in s (Some series) t before
  in_singles refusal is = record {
    us = p.us;
    last = p.last;
    left = Some series;
    like = p.last_like;
    same_bytes = refl;
    apart = λ uri apart. apart;
    run = subst (λ (b : List ℕ). IsRun limits.max_body at version due t before p.us b (end_bytes before) p.last
        (Some series)) (sym (ap (bytes_by series) is)) p.singles;
    same_due = not_due ∙ sym p.line;
  }

  here : AreInRange t.server.config.limits
  here = subst AreInRange (sym limit) ranges

  module _ (is : squash_refusal series.squash ≡ None) where
    both : (nat_lt series.squash.limits.max_changes (length (squash_batch series.squash)) ≡ false)
        × (nat_lt series.squash.limits.max_body (length (squash_body series.squash)) ≡ false)
    both = grind (arith, common_steps, cases_Bool)

    same_limits : series.squash.limits ≡ t.server.config.limits
    same_limits = ap (λ (k : SquashData). k.limits) p.from.is

    few : nat_lt t.server.config.limits.max_changes (length (squash_batch series.squash)) ≡ false
    few = subst (λ (l : LimitsData). nat_lt l.max_changes (length (squash_batch series.squash)) ≡ false) same_limits
        both.0

    abbrev entry : DocumentItem
    entry = p.from.entry

    message : IsCanonicalChange t.server series.squash.uri series.squash.version entry series.squash.items
    message = one_message t.server series.squash s.server p.from here few

    abbrev change : ChangeData
    change = canonical_change t.server series.squash.uri series.squash.version entry series.squash.items

    abbrev body : List ℕ
    body = squash_body series.squash

    body_is : body ≡ change_body series.squash.uri series.squash.version (canonical_at t.server entry
        series.squash.items)
    body_is = grind (arith, common_steps, one_batch)

    own : canonical_change_body t.server change ≡ body
    own = message.own ∙ sym body_is

    within : length body ≤ limits.max_body
    within = subst (λ (l : LimitsData). length body ≤ l.max_body) (same_limits ∙ limit)
        (ltb-false series.squash.limits.max_body (length body) both.1)

    short : length (canonical_change_body t.server change) ≤ t.server.config.limits.max_body
    short = subst (λ (l : LimitsData). length (canonical_change_body t.server change) ≤ l.max_body) (sym limit)
        (subst (λ (b : List ℕ). length b ≤ limits.max_body) (sym own) within)

    -- its one record
    abbrev one : Record
    one = record {
      head = record { side = Client; version = version; place = place_after 0 at; line_due = due };
      raw = frame body;
      body = body;
    }

    accepted : IsAccepted t one change
    accepted = record {
      side = refl;
      asks = ap (λ b. incoming_of (reading b)) body_is ∙ message.asks;
      running = p.running;
      waits = p.waits;
      may = message.may;
    }

    done : IsDone t one change
    done = is_done t one change accepted

    abbrev front : List ℕ
    front = front_of one.head

    abbrev one_series : OpenSeries
    one_series = record {
      front = front;
      singles = front ++ frame (canonical_change_body t.server change);
      squash = joined_by change (squash_of t.server.config.limits (session_encoding t.server) entry);
    }

    joins : one_series.squash ≡ series.squash
    joins = one_joins t.server series.squash s.server p.from here few

    same_end : end_bytes (Some one_series) ≡ open_bytes series
    same_end = grind (arith, common_steps, joins)

    as_one : IsEnded limits.max_body at version due due_in s (Some series) t before
    as_one = record {
      us = one ∷ [];
      last = (judge t one).session;
      left = Some one_series;
      like =
          alike_both (record t { server = s.server }) s (judge t one).session p.like
          (subst (λ (server : ServerData). IsAlike (record t { server = server }) (judge t one).session)
          (message.leaves ∙ sym p.from.now_is) done.leaves);
      same_bytes = same_end;
      apart = λ uri apart. ap (λ (k : SquashData). bytes_eq uri k.uri) joins ∙ apart;
      run =
          subst (λ (b : List ℕ). IsRun limits.max_body at version due t before (one ∷ []) b (end_bytes before)
          (judge t one).session (Some one_series))
          (sym (ap (bytes_by series) is ∙ ap (λ (f : List ℕ). f ++ frame body) p.front))
          (one_run limits.max_body at version due t before one (record {
            is_frame_of = written_is_frame limits.max_body body within (omega (arith, within, ranges.greatest_body));
            side = λ e. refl;
            of_version = refl;
            placed = refl;
            due = refl;
          }) (not_bad t before one change accepted done short) (end_bytes before) (Some one_series)
          (begun_step t before one change accepted done short entry p.from.at.found p.apart));
      same_due = not_due;
    }

  pub some_ended : IsEnded limits.max_body at version due due_in s (Some series) t before
  some_ended = by (squash_refusal series.squash) refl
    where
      by : (refusal : Option Refusal) → squash_refusal series.squash ≡ refusal
          → IsEnded limits.max_body at version due due_in s (Some series) t before
      by None is = as_one is
      by (Some refusal) is = in_singles refusal is
