-- A change that a running server receives: what becomes of it by its plan, or by why it is refused.
use Rattle.log_session.proofs.Prelude.{arith, ◌≡◌, ◌≢◌, ◌≤◌, length, ℕ, ℤ, List, map, Option, Some, None, option_map, Result, Ok, Err, IfOk, IfErr, refl, sym, ap, ◌∙◌, subst, length-append, Version, Head, ChangeData, StoreFault, refusal_fault, IsPlanOf, canonical_body, ContentChange, units_in, Encoding, Store, Running, changed, refused, did_change, IsPlanOfChange, IsPlannedAs, after_commit, store_of, ServerData, content_change_from_data, session_encoding, one_more, One, change_view, Taken, Appended, Body, Canonical, canonical_change_body, canonical_of_record, Session, Judged, Verdict, answered, counted, judge_client, judged, refusal_of, judge_at, IsChangeWitnessed, IsHeard, IsShown, IsTakenAs, accepted_if, accepted_of, ranged_read, received_of, IsAppended, verdict_view, common_steps, body_if, body_of_record, change_in, incoming_of, reading}
use Rattle.std.proofs.lemmas.Option.{none-some}
use Rattle.std.specs.declared.alloc.AllocError.{AllocError}
use Rattle.lsp_store.specs.declared.fault.StoreFault.TheVariants.{NoMemory}
use Rattle.lsp_store.specs.declared.store.plan.Plan.{Plan}
use Rattle.lsp_store.specs.Opened.{StoreData}
use Rattle.lsp_store.specs.Table.{Refusal}
use Rattle.lsp_server.specs.declared.planned.PlannedChange.{PlannedChange}
use Rattle.lsp_store.specs.Message.{whole_body}
use Rattle.log_session.specs.Canonical.{whole_change_body}
use Rattle.log_session.specs.inside.Bodies.{BodyData, IsChangeTaken, IsReceived, change_of, judge_read}
use Rattle.log_session.proofs.Records.BodyLemmas.{accepted_read, asked_in, body_of, canonical_is, judged_at, not_accepted, not_received, received_is}
use Rattle.log_session.proofs.Records.ChangeLemmas.{done_session, running_accepted, running_leaves}

-- ---- what a running server answers to a change

-- What the server planned, as a session sees its server.
module _ {inside server : ServerData} (same : inside ≡ server) (p : ChangeData) {planned found : PlannedChange}
    (by : IsPlannedAs inside p planned) (is : planned ≡ found) where
  pub planned_at : IsPlannedAs server p found
  planned_at = subst (λ (s : ServerData). IsPlannedAs s p found) same (subst (λ (x : PlannedChange). IsPlannedAs inside
      p x) is by)

module _ (s : Session) (p : ChangeData) (running : s.server.phase ≡ Running) (known : s.expected ≡ None) where
  -- A plan that was applied is the change.
  committed_in : (plan : Plan) → IsPlanOfChange s.server p plan → (new : Session) → new ≡ record s {
    server = after_commit s.server plan;
    records = one_more s.records;
    messages = one_more s.messages;
  } → IsChangeTaken s p (answered changed) new
  committed_in plan q new is = record {
    judged = λ version. sym (running_accepted s version p running known q.accepted);
    session = grind (arith, common_steps, done_session);
  }

  pub committed : (plan : Plan) → IsPlanOfChange s.server p plan → (verdict : Verdict) → verdict ≡ answered changed
      → (t : Session) → t ≡ s → (server : ServerData) → server ≡ after_commit t.server plan
      → (records : ℕ) → records ≡ one_more t.records → (messages : ℕ) → messages ≡ one_more t.messages
      → IsChangeTaken s p verdict (record t { server = server; records = records; messages = messages })
  committed plan q verdict answer t same server server_is records records_is messages messages_is =
      grind (arith, common_steps, committed_in)

  -- A change that is refused is counted.
  refused_by : (version : Version) (refusal : Refusal) → refusal_of s.server p ≡ Some refusal
      → judge_client s version (did_change (Some p)) ≡ judged (answered (refused (Store (refusal_fault refusal))))
      (record s { messages = one_more s.messages; refusals = one_more s.refusals })
  refused_by version refusal is = rw (running, known, is) refl

-- ---- a record that is a change which a running server receives

module _ {s : Session} {read : BodyData} {p : ChangeData} (received : IsReceived s read p) where
  abbrev version : Version
  version = (asked_in read p received.is).0

  judged_here : judge_read s read ≡ judge_client s version (did_change (Some p))
  judged_here = ap (judge_read s) (asked_in read p received.is).1

  module _ {Same : Type 0} {HasSeen : ServerData → ChangeData → Type 0} {new : Session} where
    -- The witness saw the change if it is accepted.
    shown_by : {verdict : Verdict} → IsChangeWitnessed Same HasSeen s new p verdict → (refusal : Option Refusal)
        → refusal_of s.server p ≡ refusal
        → IsShown Same HasSeen s new (accepted_if (Some p) (judge_client s version (did_change (Some p))).verdict)
    shown_by w None is = grind (arith, common_steps, running_accepted)
    shown_by w (Some refusal) is = grind (arith, common_steps, refused_by)

    -- whatever record this was read of
    pub change_taken : {taken : Taken} → IsChangeWitnessed Same HasSeen s new p (verdict_view taken.verdict)
        → option_map change_view taken.change ≡ Some p → taken.ranged ≡ None → IsTakenAs Same HasSeen s new read taken
    change_taken w change quiet head body is = record {
      judged = w.taken.judged version ∙ ap (λ (j : Judged). j.verdict) (sym judged_here)
          ∙ ap (λ (j : Judged). j.verdict) (judged_at s head body s read refl is);
      session = w.taken.session version ∙ ap (λ (j : Judged). (counted j).session) (sym judged_here)
          ∙ ap (λ (j : Judged). (counted j).session) (judged_at s head body s read refl is);
      change = change ∙ sym (received_is s read p received) ∙ ap (received_of s) is;
      heard = grind (arith, common_steps, asked_in);
      shown = subst (IsShown Same HasSeen s new) (accepted_read s head body read is)
          (subst (λ (b : BodyData). IsShown Same HasSeen s new (accepted_if (change_of b) (judge_read s b).verdict))
          (sym (asked_in read p received.is).1) (shown_by w (refusal_of s.server p) refl));
    }

-- A change that is accepted, or refused, by what the server planned.
module _ {s new : Session} {p : ChangeData} {verdict : Verdict} (running : s.server.phase ≡ Running)
    (known : s.expected ≡ None) (v : IsChangeTaken s p verdict new) {Same : Type 0}
    {HasSeen : ServerData → ChangeData → Type 0} where
  pub accepted_witnessed : refusal_of s.server p ≡ None → HasSeen s.server p
      → IsChangeWitnessed Same HasSeen s new p verdict
  accepted_witnessed may seen = record {
    taken = v;
    accepted = λ is. (seen, ap (λ (u : Session). u.server) (v.session One) ∙ running_leaves s One p running known may);
    refused = λ is. absurd (is may);
  }

-- ---- any other record

module _ {s new : Session} {read again : BodyData} (never : (p : ChangeData) → IsReceived s read p → ⊥)
    (same : again ≡ read) {Same : Type 0} {HasSeen : ServerData → ChangeData → Type 0} {taken : Taken} where
  pub other_taken : verdict_view taken.verdict ≡ (judge_read s again).verdict
      → new ≡ (counted (judge_read s again)).session → taken.change ≡ None → IsHeard s again taken → Same
      → IsTakenAs Same HasSeen s new read taken
  other_taken judged session change heard unseen head body is = record {
    judged = judged ∙ ap (λ (j : Judged). j.verdict) (judged_at s head body s again refl (same ∙ is));
    session = session ∙ ap (λ (j : Judged). (counted j).session) (judged_at s head body s again refl (same ∙ is));
    change = ap (option_map change_view) change ∙ sym (not_received s read never) ∙ ap (received_of s) is;
    heard = λ before. heard before ∙ ap (λ (b : BodyData). ranged_read before s b) (same ∙ is);
    shown = subst (IsShown Same HasSeen s new) (sym (not_accepted s read never) ∙ accepted_read s head body read is)
        unseen;
  }

-- ---- what a witness has seen of a record

-- the body that is written of a change that is accepted
module _ (written : ServerData → ChangeData → List ℕ) {Same : Type 0} (s new : Session) (head : Head) (body : List ℕ)
    (before after : Canonical) (unseen : Same → after ≡ before) (nothing : before.appended ≡ None) where
  abbrev HasBody : ServerData → ChangeData → Type 0
  HasBody server p = IsAppended server.config.limits.max_body (Some (written server p)) after.appended
      before.bytes.items after.bytes.items

  body_seen : (change : Option ChangeData) (verdict : Verdict)
      → IsShown Same HasBody s new (accepted_if change verdict)
      → IsAppended s.server.config.limits.max_body (body_if written s.server change verdict) after.appended
      before.bytes.items after.bytes.items
  body_seen (Some p) (answered changed) seen = seen.0
  body_seen None verdict same = ap (λ (c : Canonical). c.appended) (unseen same) ∙ nothing
  body_seen _ _ same = ap (λ (c : Canonical). c.appended) (unseen same) ∙ nothing

  pub seen_written : IsShown Same HasBody s new (accepted_of s head body)
      → IsAppended s.server.config.limits.max_body (body_of_record written s body (judge_at s head body).verdict)
      after.appended before.bytes.items after.bytes.items
  seen_written shown = body_seen (change_in (incoming_of (reading body))) (judge_at s head body).verdict shown

-- the room before it stays
pub room_kept : (max_body : ℕ) (canonical : Option (List ℕ)) (appended : Option Appended) (old new : List ℕ) (room : ℕ)
    → length old ≡ room → IsAppended max_body canonical appended old new → appended ≡ Some Body → room ≤ length new
room_kept max_body None appended old new room len is some = absurd (none-some Body (sym is ∙ some))
room_kept max_body (Some body) appended old new room len is some =
    let both = rw some at is in omega (arith, ap length both.0, length-append old body, len)

-- ---- what follows where a call succeeds

pub if_ok : {A E : Type 0} {P Q : A → Type 0} (r : Result A E) → ((a : A) → P a → Q a) → IfOk r P → IfOk r Q
if_ok (Ok a) then p = then a p
if_ok (Err e) then p = tt

-- A message, unless it is refused.
pub message_is : {T : Type 0} (message : Result T StoreFault) (out : Result (Option T) AllocError)
    → IfOk message (λ m. out ≡ Ok (Some m))
    → IfErr message (λ fault. IfOk out (λ m. (fault ≢ NoMemory) × (m ≡ None))) → (made : T) → out ≡ Ok (Some made)
    → message ≡ Ok made
message_is (Ok m) out ok error made is = grind (arith, common_steps)
message_is (Err fault) out ok error made is = grind (arith, common_steps)

pub record IsRefusedMessage (Q : StoreFault → Type 0) : Type 0 where
  pub fault : StoreFault
  pub other : fault ≢ NoMemory
  pub why : Q fault

module _ {T : Type 0} (Q : StoreFault → Type 0) where
  pub message_none : (message : Result T StoreFault) (out : Result (Option T) AllocError)
      → IfOk message (λ m. out ≡ Ok (Some m)) → IfErr message (λ fault. IfOk out (λ m. (fault ≢ NoMemory) × (m ≡ None)))
      → out ≡ Ok None → IfErr message Q → IsRefusedMessage Q
  message_none (Ok m) out ok error is q = grind (arith, common_steps)
  message_none (Err fault) out ok error is q = grind (arith, common_steps)

-- ---- what is read from the plan of an accepted change

module _ (server : ServerData) (p : ChangeData) {plan : Plan} (q : IsPlanOfChange server p plan) {store : StoreData}
    (same : store ≡ store_of server) where
  abbrev changes : List ContentChange
  changes = map content_change_from_data p.changes

  -- the plan, on the documents as the store has them
  pub plan_at : IsPlanOf store p.uri p.version (session_encoding server) changes plan
  plan_at = subst (λ (d : StoreData). IsPlanOf d p.uri p.version (session_encoding server) changes plan) (sym same) q

  -- its canonical message
  pub plan_written : (a : Appended) (old new : List ℕ)
      → ((uri : List ℕ) (version : ℤ) (encoding : Encoding) (batch : List ContentChange)
      → IsPlanOf store uri version encoding batch plan
      → IsAppended store.limits.max_body (Some (canonical_body (units_in encoding) store.table uri version batch))
      (Some a) old new)
      → IsAppended server.config.limits.max_body (Some (canonical_change_body server p)) (Some a) old new
  plan_written a old new appended = grind (arith, common_steps, plan_at)

  -- its whole text
  pub plan_whole : (a : Appended) (old new : List ℕ)
      → ((uri : List ℕ) (version : ℤ) (encoding : Encoding) (batch : List ContentChange)
      → IsPlanOf store uri version encoding batch plan
      → IsAppended store.limits.max_body
      (Some (whole_body (units_in encoding) store.table uri version batch)) (Some a) old new)
      → IsAppended server.config.limits.max_body (Some (whole_change_body server p)) (Some a) old new
  plan_whole a old new appended = grind (arith, common_steps, plan_at)
