-- A record that is read once is judged as one that is judged from its bytes.
use Rattle.log_session.proofs.Prelude.{◌≡◌, ◌⊎◌, inl, inr, ℕ, Bool, true, false, List, Option, Some, None, refl, sym, ap, ◌∙◌, ◌&&◌, and_parts, is_none, if◌then◌else◌, Version, Head, Sender, Client, Server, IdData, reading, ChangeData, Phase, Running, changed, incoming_of, did_change, ServerData, canonical_change_body, canonical_if, change_in, Session, Verdict, answered, recorded, bad, encoding_for, is_running, judge_from, judge_server, accepted_if, accepted_of, received_of}
use Rattle.log_session.specs.inside.Bodies.{BodyData, IsReceived, from_client, from_server, body_read, change_of, judge_read}
use Rattle.log_session.proofs.Records.ChangeLemmas.{heard_as, accepts}
use Rattle.log_session.proofs.Records.JudgeLemmas.{asks_change}

-- ---- a record is judged as its bytes are

judged_of : (s : Session) (version : Version) (side : Sender) (body : List ℕ)
    → judge_read s (body_read version side body)
    ≡ judge_from s version side body
judged_of s version Client body = refl
judged_of s version Server body = refl

-- a session, the same after it read a record's body, and what it read
module _ (s : Session) (head : Head) (body : List ℕ) (t : Session) (read : BodyData) (same : t ≡ s)
    (is_read : read ≡ body_read head.version head.side body) where
  pub judged_at : judge_read t read ≡ judge_from s head.version head.side body
  judged_at = ap (λ (u : Session). judge_read u read) same ∙ ap (judge_read s) is_read
      ∙ judged_of s head.version head.side body

-- ---- a change that a running server is to receive

-- only a client's record is a change
pub asked_in : (read : BodyData) (p : ChangeData) → change_of read ≡ Some p → (version : Version)
    × (read ≡ from_client version (did_change (Some p)))
asked_in (from_client version m) p is = (version, ap (from_client version) (asks_change m p is))
asked_in (from_server body) p is = absurd (let none : None ≡ Some p = is in cc)

pub received_is : (s : Session) (read : BodyData) (p : ChangeData) → IsReceived s read p → received_of s read ≡ Some p
received_is s read p received = rw (received.running, received.known) received.is

runs : (phase : Phase) → is_running phase ≡ true → phase ≡ Running
runs Running e = refl
runs _ e = absurd (let wrong : false ≡ true = e in cc)

unknown : (expected : Option IdData) → is_none expected ≡ true → expected ≡ None
unknown None e = refl
unknown (Some id) e = absurd (let wrong : false ≡ true = e in cc)

-- what isn't received
module _ (s : Session) (read : BodyData) (never : (p : ChangeData) → IsReceived s read p → ⊥) where
  pub not_received : received_of s read ≡ None
  not_received = by (is_running s.server.phase && is_none s.expected) refl (change_of read) refl
    where
      by : (b : Bool) → (is_running s.server.phase && is_none s.expected) ≡ b → (change : Option ChangeData)
          → change_of read ≡ change → (if b then change else None) ≡ None
      by false e change is = refl
      by true e None is = refl
      by true e (Some p) is =
          let both = and_parts (is_running s.server.phase) (is_none s.expected) e in
          absurd (never p (record { is = is; running = runs s.server.phase both.0; known = unknown s.expected both.1 }))

-- ---- a change that is accepted

none_heard : (change : Option ChangeData) (verdict : Verdict) → (verdict ≡ recorded) ⊎ (verdict ≡ bad)
    → accepted_if change verdict ≡ None
none_heard None verdict way = refl
none_heard (Some p) verdict (inl e) = rw e refl
none_heard (Some p) verdict (inr e) = rw e refl

accepted_in : (s : Session) (version : Version) (side : Sender) (body : List ℕ)
    → accepted_if (change_of (body_read version side body)) (judge_read s (body_read version side body)).verdict
    ≡ accepted_if (change_in (incoming_of (reading body))) (judge_from s version side body).verdict
accepted_in s version Client body = refl
accepted_in s version Server body =
    let announced = encoding_for s.expected (reading body) in
    sym (none_heard (change_in (incoming_of (reading body))) (judge_server s announced).verdict (heard_as s announced))

pub accepted_read : (s : Session) (head : Head) (body : List ℕ) (read : BodyData)
    → read ≡ body_read head.version head.side body
    → accepted_if (change_of read) (judge_read s read).verdict ≡ accepted_of s head body
accepted_read s head body read is =
    ap (λ (b : BodyData). accepted_if (change_of b) (judge_read s b).verdict) is
    ∙ accepted_in s head.version head.side body

-- what a change that is accepted is
pub accepted_is : (change : Option ChangeData) (verdict : Verdict) (p : ChangeData)
    → accepted_if change verdict ≡ Some p → (change ≡ Some p) × (verdict ≡ answered changed)
accepted_is (Some q) (answered changed) p e =
    let some : Some q ≡ Some p = e in let same : q ≡ p = cc in (ap Some same, refl)
accepted_is _ _ p e = absurd (let wrong : None ≡ Some p = e in cc)

-- a change that isn't received isn't accepted
module _ (s : Session) (read : BodyData) (never : (p : ChangeData) → IsReceived s read p → ⊥) where
  pub not_accepted : accepted_if (change_of read) (judge_read s read).verdict ≡ None
  not_accepted = by (accepted_if (change_of read) (judge_read s read).verdict) refl
    where
      by : (found : Option ChangeData) → accepted_if (change_of read) (judge_read s read).verdict ≡ found → found ≡ None
      by None e = refl
      by (Some p) e =
          let is = accepted_is (change_of read) (judge_read s read).verdict p e in
          let asked = asked_in read p is.0 in
          let at = accepts s asked.0 p s.server.phase refl s.expected refl
          (ap (λ (b : BodyData). (judge_read s b).verdict) (sym asked.1) ∙ is.1) in
          absurd (never p (record { is = is.0; running = at.0; known = at.1 }))

-- its canonical body
abbrev pub body_of : ServerData → Option ChangeData → Option (List ℕ)
body_of server None = None
body_of server (Some p) = Some (canonical_change_body server p)

pub canonical_is : (server : ServerData) (change : Option ChangeData) (verdict : Verdict)
    → canonical_if server change verdict ≡ body_of server (accepted_if change verdict)
canonical_is server (Some p) (answered changed) = refl
canonical_is server _ _ = refl
