-- What becomes of a record doesn't depend on how many records and messages came before it.
use Rattle.log_session.proofs.Prelude.{◌≡◌, ℕ, Bool, false, List, Option, Some, None, refl, sym, ap, ◌∙◌, subst, if◌then◌else◌, Encoding, reading, as_sent, IncomingData, incoming_of, step_on, Version, Sender, Client, Server, Record, Session, bad, Judged, counted, judged, judge, judge_from, judge_client, judge_server, encoding_for, handled, is_ended, is_early}

abbrev pub numbered : ℕ → ℕ → Session → Session
numbered records messages s = record {
  server = s.server;
  expected = s.expected;
  records = records;
  messages = messages;
  refusals = s.refusals;
}

-- A session differs from another in these counts alone.
abbrev pub IsAlike : Session → Session → Type 0
IsAlike s t = (records : ℕ) × (messages : ℕ) × (t ≡ numbered records messages s)

abbrev AreAlike : Judged → Judged → Type 0
AreAlike j k = (k.verdict ≡ j.verdict) × IsAlike j.session k.session

module _ (n m : ℕ) where
  alike_server : (s : Session) (announced : Option (Option Encoding))
      → AreAlike (judge_server s announced) (judge_server (numbered n m s) announced)
  alike_server s (Some None) = (refl, (n, m, refl))
  alike_server s _ = (refl, (n, m, refl))

  module _ (s : Session) (version : Version) (x : IncomingData) where
    abbrev answered_by : Session → Judged
    answered_by t = handled t version x (step_on s.server x).state (as_sent (step_on s.server x).answer)

    abbrev judged_by : Bool → Bool → Session → Judged
    judged_by ended early t = if ended then judged bad t else if early then judged bad t else answered_by t

    alike_by : (ended early : Bool) → AreAlike (judged_by ended early s) (judged_by ended early (numbered n m s))
    alike_by false false = (refl, (n, (answered_by (numbered n m s)).session.messages, refl))
    alike_by _ _ = (refl, (n, m, refl))

    alike_incoming : AreAlike (judge_client s version x) (judge_client (numbered n m s) version x)
    alike_incoming = alike_by (is_ended s.server.phase) (is_early s x)

  alike_from : (s : Session) (version : Version) (side : Sender) (body : List ℕ)
      → AreAlike (judge_from s version side body) (judge_from (numbered n m s) version side body)
  alike_from s version Client body = alike_incoming s version (incoming_of (reading body))
  alike_from s version Server body = alike_server s (encoding_for s.expected (reading body))

counted_alike : (j k : Judged) → AreAlike j k → AreAlike (counted j) (counted k)
counted_alike j k is = (
  is.0,
  (
    (counted k).session.records,
    is.1.1,
    ap (λ (s : Session). record s { records = (counted k).session.records }) is.1.2,
  ),
)

pub judged_alike : (s t : Session) (r : Record) → IsAlike s t → AreAlike (judge s r) (judge t r)
judged_alike s t r is =
    subst (λ (u : Session). AreAlike (judge s r) (judge u r)) (sym is.2)
    (counted_alike (judge_from s r.head.version r.head.side r.body) (judge_from (numbered is.0 is.1 s) r.head.version
    r.head.side r.body) (alike_from is.0 is.1 s r.head.version r.head.side r.body))

pub alike_self : (s : Session) → IsAlike s s
alike_self s = (s.records, s.messages, refl)

pub alike_both : (x s t : Session) → IsAlike x s → IsAlike x t → IsAlike s t
alike_both x s t one two = (two.0, two.1, two.2 ∙ sym (ap (numbered two.0 two.1) one.2))
