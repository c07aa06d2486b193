-- What becomes of a record is told by its body, its side and its log's version; the canonical body of an accepted
-- change is judged as the
-- change was.
use Rattle.log_session.proofs.Prelude.{◌≡◌, ℕ, ◌≤◌, List, length, Option, Some, None, refl, sym, ap, ◌∙◌, subst, arith, LimitsData, AreInRange, Encoding, IdData, reading, ChangeData, AnswerData, Sent, changed, as_sent, IncomingData, did_change, incoming_of, Version, One, Two, Sender, Client, Server, Head, Record, Session, Verdict, answered, recorded, bad, Judged, judged, judge, judge_from, judge_client, judge_server, encoding_for, handled, expected_of, one_more, change_in, body_if, body_of_record, canonical_of_record, canonical_change_body, judge_at, common_steps}
use Rattle.lsp_server.specs.Step.{ServerData, step_on, with_encoding}
use Rattle.log_session.proofs.Records.ChangeLemmas.{accepted, heard_has_none}
use Rattle.log_session.proofs.Records.AskedLemmas.{IsProperIncoming, asked_proper}
use Rattle.log_session.proofs.Records.StateLemmas.{IsHeldState, step_on_held}
use Rattle.log_session.proofs.Changes.SettledLemmas.{IsRewriting, IsRewrittenChange, settled_change}

-- ---- what holds of a session whatever is judged

module _ (P : Judged → Type 0) (s : Session) where
  pub of_server : P (judged recorded s) → P (judged bad s) → ((encoding : Encoding)
      → P (judged recorded (record s { server = with_encoding s.server encoding; expected = None })))
      → (announced : Option (Option Encoding)) → P (judge_server s announced)
  of_server stays refuses goes None = stays
  of_server stays refuses goes (Some None) = refuses
  of_server stays refuses goes (Some (Some encoding)) = goes encoding

  pub of_incoming : (version : Version) (m : IncomingData) → P (judged bad s)
      → P (handled s version m (step_on s.server m).state (as_sent (step_on s.server m).answer))
      → P (judge_client s version m)
  of_incoming version m refuses goes = grind (arith, common_steps)

from_held : (limits : LimitsData) (s : Session) (version : Version) (side : Sender) (body : List ℕ)
    → IsHeldState limits s.server → IsHeldState limits (judge_from s version side body).session.server
from_held limits s version Client body received =
    of_incoming (λ (j : Judged). IsHeldState limits j.session.server) s version (incoming_of (reading body)) received
    (step_on_held limits s.server (incoming_of (reading body)) (asked_proper body) received)
from_held limits s version Server body received =
    of_server (λ (j : Judged). IsHeldState limits j.session.server) s received received (λ encoding. grind (
      arith,
      common_steps,
    )) (encoding_for s.expected (reading body))

pub judged_held : (limits : LimitsData) (s : Session) (r : Record) → IsHeldState limits s.server
    → IsHeldState limits (judge s r).session.server
judged_held limits s r received = from_held limits s r.head.version r.head.side r.body received

-- ---- the record of an accepted change

-- A record with this body is an accepted change, and `body` is what it is written with.
pub record IsNormalCase (body : ServerData → ChangeData → List ℕ) (server : ServerData) (m : IncomingData)
    (verdict : Verdict) (bytes : List ℕ) : Type 0 where
  pub change : ChangeData
  pub asks : m ≡ did_change (Some change)
  pub error : verdict ≡ answered changed
  pub is : bytes ≡ body server change

pub asks_change : (m : IncomingData) (p : ChangeData) → change_in m ≡ Some p → m ≡ did_change (Some p)
asks_change (did_change params) p e = ap did_change e
asks_change m p e = absurd (let wrong : None ≡ Some p = e in cc)

pub case_of : (body : ServerData → ChangeData → List ℕ) (server : ServerData) (m : IncomingData) (verdict : Verdict)
    (bytes : List ℕ) → body_if body server (change_in m) verdict ≡ Some bytes
    → IsNormalCase body server m verdict bytes
case_of body server (did_change (Some p)) (answered changed) bytes e =
    record { change = p; asks = refl; error = refl; is = let same : Some bytes ≡ Some _ = sym e in cc }
case_of body server _ _ bytes e = absurd (let wrong : None ≡ Some bytes = e in cc)

-- ---- the body that is written is judged as the change was

expects_same : (version : Version) (params : Option ChangeData) (expected : Option IdData)
    → expected_of version (did_change params) expected ≡ expected
expects_same One params expected = refl
expects_same Two params expected = refl

handled_same : (s : Session) (version : Version) (params others : Option ChangeData) (server : ServerData)
    (answer : AnswerData Sent)
    → handled s version (did_change params) server answer ≡ handled s version (did_change others) server answer
handled_same s version params others server answer = grind (arith, common_steps, expects_same)

again_incoming : (s : Session) (version : Version) (p again : ChangeData) → step_on s.server (did_change (Some again))
    ≡ step_on s.server (did_change (Some p))
    → judge_client s version (did_change (Some again)) ≡ judge_client s version (did_change (Some p))
again_incoming s version p again same = grind (arith, common_steps, handled_same)

-- a body is judged as another, and a second one is written of both
abbrev IsJudgedAgain : (ServerData → ChangeData → List ℕ) → Session → Version → Sender → List ℕ → List ℕ → Type 0
IsJudgedAgain other s version side body again =
    (judge_from s version side again ≡ judge_from s version side body)
    × (body_if other s.server (change_in (incoming_of (reading again))) (judge_from s version side body).verdict
    ≡ body_if other s.server (change_in (incoming_of (reading body))) (judge_from s version side body).verdict)

module _ (body other : ServerData → ChangeData → List ℕ) (rewrites : IsRewriting body other) (limits : LimitsData)
    (ranges : AreInRange limits) where
  again_client : (s : Session) (version : Version) (bytes again : List ℕ) → IsHeldState limits s.server
      → body_if body s.server (change_in (incoming_of (reading bytes))) (judge_from s version Client bytes).verdict
      ≡ Some again → length again ≤ limits.max_body → IsJudgedAgain other s version Client bytes again
  again_client s version bytes again received is_written fits =
      let m = incoming_of (reading bytes) in
      let c = case_of body s.server m (judge_client s version m).verdict again is_written in
      let p = c.change in
      let proper : IsProperIncoming (did_change (Some p)) = subst IsProperIncoming c.asks (asked_proper bytes) in
      let error : (judge_client s version (did_change (Some p))).verdict ≡ answered changed =
      ap (λ (x : IncomingData). (judge_client s version x).verdict) (sym c.asks) ∙ c.error in
      let here : AreInRange s.server.config.limits = subst AreInRange (sym received.limit) ranges in
      let own : IsHeldState s.server.config.limits s.server =
      subst (λ (l : LimitsData). IsHeldState l s.server) (sym received.limit) received in
      let short : length (body s.server p) ≤ s.server.config.limits.max_body =
      omega (arith, fits, ap length c.is, ap (λ (l : LimitsData). l.max_body) received.limit) in
      let set : IsRewrittenChange body other s.server p = rewrites s.server p here own proper
      (accepted s version p error) short in
      let asks : incoming_of (reading again) ≡ did_change (Some set.again) = ap (λ b. incoming_of (reading b)) c.is
      ∙ set.asks in (
        ap (judge_client s version) asks ∙ again_incoming s version p set.again set.same_step
            ∙ ap (judge_client s version) (sym c.asks),
        ap (λ (x : IncomingData). body_if other s.server (change_in x) (judge_client s version m).verdict) asks
            ∙ ap (body_if other s.server (Some set.again)) c.error ∙ ap Some set.same_body
            ∙ sym (ap (λ (x : IncomingData). body_if other s.server (change_in x) (judge_client s version m).verdict)
            c.asks ∙ ap (body_if other s.server (Some p)) c.error),
      )

  again_from : (s : Session) (version : Version) (side : Sender) (bytes again : List ℕ)
      → IsHeldState limits s.server
      → body_if body s.server (change_in (incoming_of (reading bytes))) (judge_from s version side bytes).verdict
      ≡ Some again → length again ≤ limits.max_body → IsJudgedAgain other s version side bytes again
  again_from s version Client bytes again received is_written fits =
      again_client s version bytes again received is_written fits
  again_from s version Server bytes again received is_written fits =
      absurd (let none = heard_has_none body s.server (change_in (incoming_of (reading bytes))) s
      (encoding_for s.expected (reading bytes)) in
      let wrong : None ≡ Some again = sym none ∙ is_written in cc)

  pub written_again : (s : Session) (head : Head) (bytes again : List ℕ) → IsHeldState limits s.server
      → body_of_record body s bytes (judge_at s head bytes).verdict ≡ Some again → length again ≤ limits.max_body
      → (judge_at s head again ≡ judge_at s head bytes)
      × (body_of_record other s again (judge_at s head bytes).verdict
      ≡ body_of_record other s bytes (judge_at s head bytes).verdict)
  written_again s head bytes again received is_written fits =
      let same = again_from s head.version head.side bytes again received is_written fits in (
        ap (λ (j : Judged). record j { session = record j.session { records = one_more j.session.records } }) same.0,
        same.1,
      )

-- A canonical body is judged as the change was, and is its own canonical body.
pub judged_again : (limits : LimitsData) → AreInRange limits → (s : Session) (head : Head) (body again : List ℕ)
    → IsHeldState limits s.server → canonical_of_record s body (judge_at s head body).verdict ≡ Some again
    → length again ≤ limits.max_body
    → (judge_at s head again ≡ judge_at s head body)
    × (canonical_of_record s again (judge_at s head body).verdict ≡ Some again)
judged_again limits ranges s head body again received is_canonical fits =
    let same = written_again canonical_change_body canonical_change_body settled_change limits ranges s head body again
    received is_canonical fits in (same.0, same.1 ∙ is_canonical)
