-- A change that begins a series, and one that goes on with the open series.
use Rattle.log_rewrite.proofs.Prelude.{Bool, List, None, Option, Some, [], ap, append-nil, arith, bytes_eq, false, length, map, refl, subst, sym, true, ℕ, ◌++◌, ◌+◌, ◌∙◌, ◌∷◌, ◌≡◌, ◌≤◌, common_steps, bytes_eq-Decides, chars, plain_text, frame, AreInRange, LimitsData, due_after, IsRecord, Record, together, Version, ChangeData, DocumentItem, canonical_change_body, front_of, Session, judge, server_after, OpenSeries, end_bytes, joined_by, longer, squash_step, content_change_from_data, session_encoding, MayChange, change_parts, within_at, SquashData, squash_of, entry_at, IsWithin, units_in}
use Rattle.log_rewrite.proofs.Squash.JoiningLemmas.{uri_at}
use Rattle.log_rewrite.proofs.Squash.SingleLemmas.{IsSingle, is_single, single_record}
use Rattle.log_rewrite.proofs.Squash.KindLemmas.{IsAccepted, IsDone, is_done, proper_change}
use Rattle.log_session.proofs.Records.NumberedLemmas.{numbered}
use Rattle.log_rewrite.proofs.Squash.OpenSeriesLemmas.{IsOpenFrom, begins_from, goes_on_from, same_encoding, same_text}
use Rattle.log_rewrite.proofs.Squash.SquashLawLemmas.{IsApart, IsRun, due_more, one_run, then_run}
use Rattle.log_session.proofs.Records.StateLemmas.{IsHeldState}
use Rattle.log_rewrite.proofs.Squash.PendingLemmas.{IsPending, begun_step, longer_step, not_bad}

-- What is written with a change that is accepted, and the series that is open then.
pub record IsSeriesStep (max_body at : ℕ) (version : Version) (due : Bool) (s : Session) (series : Option OpenSeries)
    (r : Record) (out : List ℕ) (t : Session) (before : Option OpenSeries) : Type 0 where
  pub next : OpenSeries
  pub writes : squash_step s series r (judge s r) ≡ record { out = out; end = None; series = Some next }
  pub pending : IsPending max_body at version due (judge s r).session next t before

module _ (limits : LimitsData) (ranges : AreInRange limits) (at : ℕ) (version : Version) (due : Bool) (s : Session)
    (r : Record) (p : ChangeData) (of_version : r.head.version ≡ version) (received : IsHeldState limits s.server)
    (a : IsAccepted s r p) (fits : length (canonical_change_body s.server p) ≤ s.server.config.limits.max_body) where
  done_in : IsDone s r p
  done_in = is_done s r p a

  left : server_after s.server p ≡ (judge s r).session.server
  left = sym (ap (λ (u : Session). u.server) done_in.leaves.2)

  -- ---- it begins a series

  module _ (series : Option OpenSeries) (n m : ℕ) (before : Option OpenSeries) (apart_in : IsApart series p.uri)
      (apart : IsApart before p.uri) (same_due : r.head.line_due ≡ due) where
    abbrev t : Session
    t = numbered n m s

    abbrev q : Record
    q = single_record at s r p

    single : IsSingle limits.max_body at version due s n m r p
    single = is_single limits ranges at version due s n m r p received a fits of_version same_due

    may_in : MayChange s.server.config.limits (units_in (session_encoding s.server)) s.server.table p.uri p.version
        (map content_change_from_data p.changes)
    may_in = change_parts s.server.config.limits (units_in (session_encoding s.server)) s.server.table p.uri p.version
        (map content_change_from_data p.changes) a.may

    abbrev its_entry : DocumentItem
    its_entry = may_in.entry

    abbrev its_squash : ChangeData → SquashData
    its_squash change = joined_by change (squash_of s.server.config.limits (session_encoding s.server) its_entry)

    abbrev begun : OpenSeries
    begun = record {
      front = front_of r.head;
      singles = front_of r.head ++ frame (canonical_change_body s.server p);
      squash = its_squash p;
    }

    found_out : entry_at s.server.table single.again.uri ≡ Some its_entry
    found_out = ap (entry_at s.server.table) single.same_uri ∙ may_in.is_open

    same_squash : its_squash single.again ≡ its_squash p
    same_squash =
        single.joins (squash_of s.server.config.limits (session_encoding s.server) its_entry) refl
        (λ entry found.
        let both : Some its_entry ≡ Some entry = sym may_in.is_open ∙ found in
        let one : its_entry ≡ entry = cc in
        plain_text (chars its_entry.text) ∙ ap (λ (e : DocumentItem). chars e.text) one)

    gives : squash_step t before q (judge t q) ≡ record { out = end_bytes before; end = None; series = Some begun }
    gives =
        let step = begun_step t before q single.again single.accepted single.done single.within its_entry found_out
        (subst (IsApart before) (sym single.same_uri) apart) in
        grind (arith, common_steps, step, single.own, same_squash)

    pub begun_series : IsSeriesStep limits.max_body at version due s series r (end_bytes series) t before
    begun_series = record {
      next = begun;
      writes = begun_step s series r p a done_in fits its_entry may_in.is_open apart_in;
      pending = record {
        from =
            subst (IsOpenFrom t.server begun.squash) (single.leaves ∙ left)
            (subst (λ k. IsOpenFrom t.server k (server_after t.server single.again)) same_squash
            (begins_from t.server single.again its_entry found_out
            (subst (λ (l : LimitsData). IsWithin l its_entry) (sym received.limit)
            (within_at limits s.server.table p.uri its_entry received.table may_in.is_open))
            (proper_change q single.again single.accepted.asks) single.accepted.may));
        running = a.running;
        waits = a.waits;
        like = (
          done_in.leaves.0,
          done_in.leaves.1,
          done_in.leaves.2
              ∙ ap (λ server. numbered done_in.leaves.0 done_in.leaves.1 (record s { server = server })) left,
        );
        apart = subst (IsApart before) (sym (uri_at s.server.table p.uri its_entry may_in.is_open)) apart;
        front = grind (arith, common_steps);
        us = q ∷ [];
        line = refl;
        last = (judge t q).session;
        last_like = single.like;
        singles = one_run limits.max_body at version due t before q single.is
            (not_bad t before q single.again single.accepted single.done single.within) (end_bytes before)
            (Some begun) gives;
      };
    }

  -- ---- it goes on with the open series

  module _ (series : OpenSeries) (t : Session) (before : Option OpenSeries)
      (open_series : IsPending limits.max_body at version due s series t before)
      (same : bytes_eq p.uri series.squash.uri ≡ true) (not_due : r.head.line_due ≡ false) where
    abbrev n : ℕ
    n = open_series.last_like.0

    abbrev m : ℕ
    m = open_series.last_like.1

    abbrev last : Session
    last = numbered n m s

    abbrev place : ℕ
    place = at + length (together version open_series.us [])

    abbrev more_q : Record
    more_q = single_record place s r p

    another : IsSingle limits.max_body place version false s n m r p
    another = is_single limits ranges place version false s n m r p received a fits of_version not_due

    abbrev next_series : OpenSeries
    next_series = longer series p (front_of r.head ++ frame (canonical_change_body s.server p))

    joins_same : joined_by another.again series.squash ≡ joined_by p series.squash
    joins_same =
        another.joins series.squash (same_encoding t.server series.squash s.server open_series.from)
        (λ entry found. same_text t.server series.squash s.server open_series.from p.uri entry
        ((bytes_eq-Decides p.uri series.squash.uri).0 same) found)

    gives_last : squash_step last (Some series) more_q (judge last more_q)
        ≡ record { out = []; end = None; series = Some next_series }
    gives_last =
        let step = longer_step last (Some series) more_q another.again another.accepted another.done another.within
        series refl (ap (λ u. bytes_eq u series.squash.uri) another.same_uri ∙ same) in
        grind (arith, common_steps, step, another.own, joins_same)

    -- the records up to now, and this one
    all_singles : IsRun limits.max_body at version due t before (open_series.us ++ more_q ∷ []) next_series.singles
        (end_bytes before) (judge last more_q).session (Some next_series)
    all_singles =
        subst (λ (out : List ℕ). IsRun limits.max_body at version due t before (open_series.us ++ more_q ∷ [])
        next_series.singles out (judge last more_q).session (Some next_series)) (append-nil (end_bytes before))
        (then_run (subst (λ (u : Session). IsRun limits.max_body at version due t before open_series.us series.singles
        (end_bytes before) u (Some series)) open_series.last_like.2 open_series.singles) place refl
        (one_run limits.max_body place version (due_after due open_series.us) last (Some series) more_q
        (subst (λ b. IsRecord limits.max_body version place b more_q) (sym open_series.line) another.is)
        (not_bad last (Some series) more_q another.again another.accepted another.done another.within) []
        (Some next_series) gives_last))

    pub longer_series : IsSeriesStep limits.max_body at version due s (Some series) r [] t before
    longer_series = record {
      next = next_series;
      writes = longer_step s (Some series) r p a done_in fits series refl same;
      pending = record {
        from = subst (IsOpenFrom t.server next_series.squash) left
            (goes_on_from t.server series.squash s.server open_series.from p same (proper_change r p a.asks) a.may);
        running = open_series.running;
        waits = open_series.waits;
        like = (
          done_in.leaves.0,
          done_in.leaves.1,
          done_in.leaves.2
              ∙ ap (λ (u : Session). numbered done_in.leaves.0 done_in.leaves.1 (record u {
                server = server_after s.server p;
              })) open_series.like.2
              ∙ ap (λ server. numbered done_in.leaves.0 done_in.leaves.1 (record t { server = server })) left,
        );
        apart = open_series.apart;
        front = open_series.front;
        us = open_series.us ++ more_q ∷ [];
        line = due_more due open_series.us (more_q ∷ []);
        last = (judge last more_q).session;
        last_like = another.like;
        singles = all_singles;
      };
    }
