-- The reason of a record, by the change that a running server received: a change that isn't received isn't refused.
use Rattle.log_report.proofs.Prelude.{List, None, Option, Some, ap, inl, inr, refl, subst, sym, ℕ, ⊎_elim, ◌&&◌, ◌∙◌, ◌≡◌, ◌⊎◌, cond_both, is_none, ⊤, Head, Sender, Client, Server, Version, IdData, reading, ChangeData, change_in, Known, hint_in, is_strict_in, Session, Verdict, answered, bad, encoding_for, is_running, judge_client, judge_from, judge_server, recorded, body_read, judge_at, received_of, dropped, IncomingData, did_change, incoming_of, Phase, Down, Ended, New, Running, Encoding, is_some, is_mention}
use Rattle.log_session.proofs.Records.JudgeLemmas.{asks_change}
use Rattle.log_report.specs.Habits.{version_rejected}

-- a verdict that has no reason, whatever was sent
abbrev IsQuiet : Verdict → Type 0
IsQuiet recorded = ⊤
IsQuiet bad = ⊤
IsQuiet (answered dropped) = ⊤
IsQuiet (answered answer) = ⊥

heard_quiet : (s : Session) (announced : Option (Option Encoding)) → IsQuiet (judge_server s announced).verdict
heard_quiet s (Some None) = tt
heard_quiet s _ = tt

-- a change is received, or its verdict has no reason
module _ (s : Session) (version : Version) (p : ChangeData) where
  quiet_in : (phase : Phase) → s.server.phase ≡ phase → (expected : Option IdData) → s.expected ≡ expected
      → ((s.server.phase ≡ Running) × (s.expected ≡ None))
      ⊎ IsQuiet (judge_client s version (did_change (Some p))).verdict
  quiet_in Running is None none = inl (is, none)
  quiet_in New is None none = inr (rw (is, none) tt)
  quiet_in Down is (Some id) some = inr (rw (is, some) tt)
  quiet_in Ended is expected waits = inr (rw is tt)
  quiet_in _ is _ it = inr (rw (is, it) tt)

module _ (s : Session) (body : List ℕ) where
  abbrev m : IncomingData
  m = incoming_of (reading body)

  abbrev Received : Version → Sender → Type 0
  Received version side = (received_of s (body_read version side body) ≡ change_in m)
      ⊎ IsQuiet (judge_from s version side body).verdict

  received_at : (version : Version) (side : Sender) → Received version side
  received_at version Server = inr (heard_quiet s (encoding_for s.expected (reading body)))
  received_at version Client = by (change_in m) refl
    where
      state : (p : ChangeData) → m ≡ did_change (Some p)
          → ((s.server.phase ≡ Running) × (s.expected ≡ None))
          ⊎ IsQuiet (judge_client s version (did_change (Some p))).verdict → Received version Client
      state p asks (inl received) = inl (rw (received.0, received.1) refl)
      state p asks (inr q) =
          inr (subst (λ (x : IncomingData). IsQuiet (judge_client s version x).verdict) (sym asks) q)

      by : (change : Option ChangeData) → change_in m ≡ change → Received version Client
      by None is = inl (cond_both (is_running s.server.phase && is_none s.expected) (change_in m) None (λ c. c ≡ None)
          (λ e. is) (λ e. refl) ∙ sym is)
      by (Some p) is = state p (asks_change m p is) (quiet_in s version p s.server.phase refl s.expected refl)

-- What goes by the change only where a verdict has a reason goes by the change that was received.
module _ {X : Type 0} (f : Option ChangeData → Verdict → X)
    (on_recorded : (change : Option ChangeData) → f change recorded ≡ f None recorded)
    (on_bad : (change : Option ChangeData) → f change bad ≡ f None bad)
    (on_dropped : (change : Option ChangeData) → f change (answered dropped) ≡ f None (answered dropped))
    (s : Session) (head : Head) (body : List ℕ) where
  quiet : (change : Option ChangeData) (verdict : Verdict) → IsQuiet verdict → f change verdict ≡ f None verdict
  quiet change recorded q = on_recorded change
  quiet change bad q = on_bad change
  quiet change (answered dropped) q = on_dropped change
  quiet change _ q = absurd q

  pub by_received : f (received_of s (body_read head.version head.side body)) (judge_at s head body).verdict
      ≡ f (change_in (incoming_of (reading body))) (judge_at s head body).verdict
  by_received =
      ⊎_elim
      (λ (same : received_of s (body_read head.version head.side body) ≡ change_in (incoming_of (reading body))).
      ap (λ (change : Option ChangeData). f change (judge_at s head body).verdict) same)
      (λ (q : IsQuiet (judge_at s head body).verdict).
      quiet (received_of s (body_read head.version head.side body)) (judge_at s head body).verdict q
      ∙ sym (quiet (change_in (incoming_of (reading body))) (judge_at s head body).verdict q))
      (received_at s body head.version head.side)

pub mention_at : (s : Session) (head : Head) (body : List ℕ)
    → is_mention (is_some (received_of s (body_read head.version head.side body))) (judge_at s head body).verdict
    ≡ is_mention (is_some (change_in (incoming_of (reading body)))) (judge_at s head body).verdict
mention_at = by_received (λ change verdict. is_mention (is_some change) verdict) (λ c. refl) (λ c. refl) (λ c. refl)

quiet_rejected : (verdict : Verdict) (change : Option ChangeData) → IsQuiet verdict
    → version_rejected change verdict ≡ version_rejected None verdict
quiet_rejected recorded None q = refl
quiet_rejected recorded (Some p) q = refl
quiet_rejected bad None q = refl
quiet_rejected bad (Some p) q = refl
quiet_rejected (answered dropped) None q = refl
quiet_rejected (answered dropped) (Some p) q = refl
quiet_rejected _ _ q = absurd q

pub rejected_at : (s : Session) (head : Head) (body : List ℕ)
    → version_rejected (received_of s (body_read head.version head.side body)) (judge_at s head body).verdict
    ≡ version_rejected (change_in (incoming_of (reading body))) (judge_at s head body).verdict
rejected_at =
    by_received version_rejected (λ change. quiet_rejected recorded change tt) (λ change. quiet_rejected bad change tt)
    (λ change. quiet_rejected (answered dropped) change tt)

module _ (known : Known) (uri : Option (List ℕ)) where
  pub strict_at : (s : Session) (head : Head) (body : List ℕ)
      → is_strict_in known uri (received_of s (body_read head.version head.side body)) (judge_at s head body).verdict
      ≡ is_strict_in known uri (change_in (incoming_of (reading body))) (judge_at s head body).verdict
  strict_at = by_received (is_strict_in known uri) (λ c. refl) (λ c. refl) (λ c. refl)

  pub hint_at : (s : Session) (head : Head) (body : List ℕ)
      → hint_in known uri (received_of s (body_read head.version head.side body)) (judge_at s head body).verdict
      ≡ hint_in known uri (change_in (incoming_of (reading body))) (judge_at s head body).verdict
  hint_at = by_received (hint_in known uri) (λ c. refl) (λ c. refl) (λ c. refl)
