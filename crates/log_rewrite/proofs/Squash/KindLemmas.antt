-- A record that doesn't end the run is an accepted change, or is written as it is.
use Rattle.log_rewrite.proofs.Prelude.{◌≡◌, ◌≢◌, ◌⊎◌, inl, inr, ℕ, ◌≤◌, Bool, true, false, List, ◌++◌, length, Option, Some, None, refl, sym, ap, ◌∙◌, subst, nat_lt, if◌then◌else◌, Err, ltb-false, reading, ChangeData, Running, AnswerData, Sent, changed, incoming_of, did_change, ServerData, Sender, Client, Server, Record, BadLog, BodyTooLong, one_more, frame, change_in, canonical_if, canonical_change_body, refusal_of, Session, Verdict, answered, recorded, bad, Judged, judge, judge_from, judge_client, counted, encoding_for, OpenSeries, change_output, faulty, step_if}
use Rattle.log_session.proofs.Records.AskedLemmas.{IsProperAsked, IsProperIncoming, asked_proper}
use Rattle.log_session.proofs.Records.ChangeLemmas.{running_accepted, accepted, heard_has_none, session_after, accepts, done_session}
use Rattle.log_session.proofs.Records.JudgeLemmas.{asks_change}
use Rattle.log_session.proofs.Records.NumberedLemmas.{IsAlike}

-- ---- a record that doesn't end the run is an accepted change within the limit, or is written as it is

abbrev pub IsOtherKind : ServerData → Option ChangeData → Verdict → Type 0
IsOtherKind server change verdict = (verdict ≢ bad) × (canonical_if server change verdict ≡ None)

abbrev pub IsChangeKind : ServerData → Option ChangeData → Verdict → Type 0
IsChangeKind server change verdict = (p : ChangeData) × (change ≡ Some p) × (verdict ≡ answered changed)
    × (length (canonical_change_body server p) ≤ server.config.limits.max_body)

abbrev IsKind : ServerData → Option ChangeData → Verdict → Type 0
IsKind server change verdict = IsOtherKind server change verdict ⊎ IsChangeKind server change verdict

not_bad : (answer : AnswerData Sent) → answered answer ≢ bad
not_bad answer e = cc

not_recorded : recorded ≢ bad
not_recorded e = cc

pub kind_of : (server : ServerData) (r : Record) (front : List ℕ) (series : Option OpenSeries) (change : Option
    ChangeData)
    (verdict : Verdict) → (step_if server r front series change verdict).end ≡ None → IsKind server change verdict
kind_of server r front series (Some p) (answered changed) e =
    inr (
      p,
      refl,
      refl,
      ltb-false server.config.limits.max_body (length (canonical_change_body server p))
          (short (nat_lt server.config.limits.max_body (length (canonical_change_body server p))) e),
    )
  where
    short : (over : Bool) → (if over then faulty (BodyTooLong r.head.place) else change_output server p front
        (front ++ frame (canonical_change_body server p)) series).end ≡ None → over ≡ false
    short true f = absurd (let wrong : Some (Err (BodyTooLong r.head.place)) ≡ None = f in cc)
    short false f = refl
kind_of server r front series None bad e = absurd (let wrong : Some (Err (BadLog r.head.place)) ≡ None = e in cc)
kind_of server r front series (Some p) bad e = absurd (let wrong : Some (Err (BadLog r.head.place)) ≡ None = e in cc)
kind_of server r front series None recorded e = inl (not_recorded, refl)
kind_of server r front series (Some p) recorded e = inl (not_recorded, refl)
kind_of server r front series None (answered answer) e = inl (not_bad answer, refl)
kind_of server r front series (Some p) (answered answer) e = inl (not_bad answer, refl)

-- neither is bad
pub not_bad_of : (server : ServerData) (r : Record) (front : List ℕ) (series : Option OpenSeries) (change : Option
    ChangeData) (verdict : Verdict) → (step_if server r front series change verdict).end ≡ None → verdict ≢ bad
not_bad_of server r front series change verdict e is = by (kind_of server r front series change verdict e)
  where
    by : IsKind server change verdict → ⊥
    by (inl other) = other.0 is
    by (inr kind) = let wrong : answered changed ≡ bad = sym kind.2 ∙ is in cc

pub record IsAccepted (s : Session) (r : Record) (p : ChangeData) : Type 0 where
  pub side : r.head.side ≡ Client
  pub asks : incoming_of (reading r.body) ≡ did_change (Some p)
  pub running : s.server.phase ≡ Running
  pub waits : s.expected ≡ None
  pub may : refusal_of s.server p ≡ None

-- what it is that a record is accepted for
pub was_accepted : (s : Session) (r : Record) (p : ChangeData) → change_in (incoming_of (reading r.body)) ≡ Some p
    → (judge s r).verdict ≡ answered changed → IsAccepted s r p
was_accepted s r p is error = by r.head.side refl
  where
    asks : incoming_of (reading r.body) ≡ did_change (Some p)
    asks = asks_change (incoming_of (reading r.body)) p is

    by : (side : Sender) → r.head.side ≡ side → IsAccepted s r p
    by Server server =
        let heard = ap (λ side. (judge_from s r.head.version side r.body).verdict) (sym server) ∙ error in
        let none : canonical_if s.server (Some p) (answered changed) ≡ None =
        ap (canonical_if s.server (Some p)) (sym heard)
        ∙ heard_has_none canonical_change_body s.server (Some p) s (encoding_for s.expected (reading r.body)) in
        absurd (let wrong : Some (canonical_change_body s.server p) ≡ None = none in cc)
    by Client client =
        let told_here : (judge_client s r.head.version (did_change (Some p))).verdict ≡ answered changed =
        ap (λ x. (judge_client s r.head.version x).verdict) (sym asks)
        ∙ ap (λ side. (judge_from s r.head.version side r.body).verdict) (sym client) ∙ error in
        let where_it_runs = accepts s r.head.version p s.server.phase refl s.expected refl told_here in
        record {
          side = client;
          asks = asks;
          running = where_it_runs.0;
          waits = where_it_runs.1;
          may = accepted s r.head.version p told_here;
        }

pub proper_change : (r : Record) (p : ChangeData) → incoming_of (reading r.body) ≡ did_change (Some p) → IsProperAsked p
proper_change r p asks = subst IsProperIncoming asks (asked_proper r.body)

-- What becomes of it.
pub record IsDone (s : Session) (r : Record) (p : ChangeData) : Type 0 where
  pub error : (judge s r).verdict ≡ answered changed
  pub leaves : IsAlike (session_after s p) (judge s r).session

pub is_done : (s : Session) (r : Record) (p : ChangeData) → IsAccepted s r p → IsDone s r p
is_done s r p a = record {
  error = ap (λ (j : Judged). j.verdict) here ∙ running_accepted s r.head.version p a.running a.waits a.may;
  leaves = (
    one_more s.records,
    one_more s.messages,
    ap (λ (j : Judged). (counted j).session) here ∙ done_session s r.head.version p a.running a.waits a.may,
  );
}
  where
    here : judge_from s r.head.version r.head.side r.body ≡ judge_client s r.head.version (did_change (Some p))
    here = ap (λ side. judge_from s r.head.version side r.body) a.side ∙ ap (judge_client s r.head.version) a.asks
