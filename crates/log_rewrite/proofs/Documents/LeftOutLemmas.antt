-- A record that is left out changes nothing of a session but its counts.
use Rattle.log_rewrite.proofs.Prelude.{Bool, List, None, Option, Some, ap, arith, false, is_some, refl, subst, sym, true, ℕ, ◌&&◌, ◌≡◌, ◌≢◌, cases_Bool, common_steps, option_map, Record, Sender, Client, Server, Version, One, Two, IdData, Reading, reading, ChangeData, canonical_if, change_in, is_answer_to, message_stays, record_stays, Judged, Session, answered, bad, counted, encoding_for, encoding_in, expected_of, handled, is_change, is_early, is_ended, is_refused, is_running, judge, judge_client, judge_from, judge_server, judged, recorded, result_for, AnswerData, Sent, as_sent, IncomingData, incoming_of, other_notification, other_request, response, Phase, Down, Ended, New, Running, one_more, Data}
use Rattle.log_session.specs.Canonical.{canonical_change_body}
use Rattle.lsp_server.specs.Step.{ServerData, step_in, step_on}
use Rattle.std.proofs.lemmas.Bool.{or_parts}
use Rattle.log_session.proofs.Records.ChangeLemmas.{heard_has_none}
use Rattle.log_session.proofs.Records.NumberedLemmas.{IsAlike}
use Rattle.lsp_message.specs.Message as read

-- What becomes of a record that is left out.
pub record IsHarmless (s : Session) (change : Option ChangeData) (j : Judged) : Type 0 where
  pub alike : IsAlike s j.session
  pub not_bad : j.verdict ≢ bad
  pub none : canonical_if s.server change j.verdict ≡ None

-- ---- a client's message

-- A step that answers and changes nothing, and isn't a refusal.
abbrev IsIdle : Phase → ServerData → IncomingData → Type 0
IsIdle phase server m =
    (is_ended phase ≡ false) × ((step_in phase server m).state ≡ server)
    × (is_refused (as_sent (step_in phase server m).answer) ≡ false) × (is_change m ≡ false) × (change_in m ≡ None)
    × ((expected : Option IdData) → expected_of One m expected ≡ expected)
    × ((expected : Option IdData) → expected_of Two m expected ≡ expected)

idle : (server : ServerData) (phase : Phase) (m : IncomingData) → message_stays phase m ≡ false → IsIdle phase server m
idle server New (response id) e = (refl, refl, refl, refl, refl, λ x. refl, λ x. refl)
idle server Running (response id) e = (refl, refl, refl, refl, refl, λ x. refl, λ x. refl)
idle server Down (response id) e = (refl, refl, refl, refl, refl, λ x. refl, λ x. refl)
idle server Running (other_request id method) e = (refl, refl, refl, refl, refl, λ x. refl, λ x. refl)
idle server New (other_notification method) e = (refl, refl, refl, refl, refl, λ x. refl, λ x. refl)
idle server Running (other_notification method) e = (refl, refl, refl, refl, refl, λ x. refl, λ x. refl)
idle server Down (other_notification method) e = (refl, refl, refl, refl, refl, λ x. refl, λ x. refl)
idle server Ended (response id) e = absurd (let wrong : true ≡ false = e in cc)
idle server _ _ e = absurd (let wrong : true ≡ false = e in cc)

early : (a b c : Bool) → c ≡ false → (a && b && c) ≡ false
early a b c e = grind (arith, common_steps, cases_Bool)

module _ (s : Session) (version : Version) (m : IncomingData) (left_out : message_stays s.server.phase m ≡ false) where
  here : IsIdle s.server.phase s.server m
  here = idle s.server s.server.phase m left_out

  abbrev answer : AnswerData Sent
  answer = as_sent (step_on s.server m).answer

  expects : (v : Version) → expected_of v m s.expected ≡ s.expected
  expects One = here.5 s.expected
  expects Two = here.6 s.expected

  not_early : is_early s m ≡ false
  not_early = early (is_some s.expected) (is_running s.server.phase) (is_change m) here.3

  is_handled : judge_client s version m ≡ handled s version m (step_on s.server m).state answer
  is_handled = rw (here.0, not_early) refl

  is_quiet : judge_client s version m ≡ judged (answered answer) (record s { messages = one_more s.messages })
  is_quiet = grind (arith, common_steps, cases_Bool, is_handled, expects, here.1, here.2)

  client_harmless : IsHarmless s (change_in m) (judge_client s version m)
  client_harmless =
      subst (IsHarmless s (change_in m)) (sym is_quiet)
      (record {
        alike = (s.records, one_more s.messages, refl);
        not_bad = λ (wrong : answered answer ≡ bad). cc;
        none = ap (λ (c : Option ChangeData). canonical_if s.server c (answered answer)) here.4;
      })

-- ---- a server's record

no_result : (id : IdData) (body : Reading) → is_answer_to (Some id) body ≡ false → result_for id body ≡ None
no_result id (read.message (read.response None read.failed)) e = refl
no_result id (read.message (read.response (Some other) (read.given result))) e = rw e refl
no_result id _ e = refl

no_answer : (s : Session) (expected : Option IdData) (body : List ℕ) → is_answer_to expected (reading body) ≡ false
    → judge_server s (encoding_for expected (reading body)) ≡ judged recorded s
no_answer s None body e = refl
no_answer s (Some id) body e = ap (λ (r : Option Data). judge_server s (option_map encoding_in r))
    (no_result id (reading body) e)

server_harmless : (s : Session) (waiting : Option IdData) (change : Option ChangeData) (body : List ℕ)
    → record_stays s waiting Server body ≡ false
    → IsHarmless s change (judge_server s (encoding_for s.expected (reading body)))
server_harmless s waiting change body e =
    subst (IsHarmless s change) (sym (no_answer s s.expected body (or_parts _ _ e).0))
    (record {
      alike = (s.records, s.messages, refl);
      not_bad = λ (wrong : recorded ≡ bad). cc;
      none = heard_has_none canonical_change_body s.server change s None;
    })

-- ---- any record

from_harmless : (s : Session) (waiting : Option IdData) (version : Version) (side : Sender) (body : List ℕ)
    → record_stays s waiting side body ≡ false → IsHarmless s (change_in (incoming_of (reading body)))
    (judge_from s version side body)
from_harmless s waiting version Client body e = client_harmless s version (incoming_of (reading body)) e
from_harmless s waiting version Server body e = server_harmless s waiting (change_in (incoming_of (reading body))) body
    e

counted_harmless : (s : Session) (change : Option ChangeData) (j : Judged) → IsHarmless s change j
    → IsHarmless s change (counted j)
counted_harmless s change j h = record {
  alike = (
    one_more j.session.records,
    h.alike.1,
    ap (λ (t : Session). record t { records = one_more j.session.records }) h.alike.2,
  );
  not_bad = h.not_bad;
  none = h.none;
}

pub harmless : (s : Session) (waiting : Option IdData) (r : Record) → record_stays s waiting r.head.side r.body ≡ false
    → IsHarmless s (change_in (incoming_of (reading r.body))) (judge s r)
harmless s waiting r e = counted_harmless s _ (judge_from s r.head.version r.head.side r.body)
    (from_harmless s waiting r.head.version r.head.side r.body e)

-- Whether a record stays doesn't depend on the counts.
pub stays_alike : (s t : Session) (waiting : Option IdData) (side : Sender) (body : List ℕ) → IsAlike s t
    → record_stays t waiting side body ≡ record_stays s waiting side body
stays_alike s t waiting Client body like = ap (λ (u : Session). record_stays u waiting Client body) like.2
stays_alike s t waiting Server body like = ap (λ (u : Session). record_stays u waiting Server body) like.2
