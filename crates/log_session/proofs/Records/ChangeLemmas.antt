-- What a session answers to a change, and to a server's record.
use Rattle.log_session.proofs.Prelude.{Bool, List, None, Option, Some, false, inl, inr, map, refl, ◌≡◌, ◌⊎◌, if◌then◌else◌, Version, ChangeData, DocumentItem, body_if, Judged, Session, answered, bad, judge_client, judge_server, judged, recorded, AnswerData, Sent, as_sent, changed, did_change, ServerData, change_command, content_change_from_data, result_step, session_encoding, step_in, Phase, Running, Refusal, change_refusal, command_refusal, table_after, unless_refused, units_in, Encoding, refusal_of, server_after, IdData, New, Down, Ended, one_more, counted, ℕ}
use Rattle.log_session.proofs.Records.NumberedLemmas.{numbered}

pub heard_as : (s : Session) (announced : Option (Option Encoding))
    → ((judge_server s announced).verdict ≡ recorded) ⊎ ((judge_server s announced).verdict ≡ bad)
heard_as s (Some None) = inr refl
heard_as s _ = inl refl

-- A server's record is written as it is.
pub heard_has_none : (body : ServerData → ChangeData → List ℕ) (server : ServerData) (change : Option ChangeData)
    (s : Session) (announced : Option (Option Encoding))
    → body_if body server change (judge_server s announced).verdict ≡ None
heard_has_none body server None s announced = refl
heard_has_none body server (Some p) s (Some None) = refl
heard_has_none body server (Some p) s _ = refl

-- ---- a change that is answered by `changed` was not refused

obeyed_changed : (s : ServerData) (refusal : Option Refusal) (next : List DocumentItem)
    → as_sent (result_step s (unless_refused refusal next)).answer ≡ changed → refusal ≡ None
obeyed_changed s None next e = refl
obeyed_changed s (Some refusal) next e = cc

step_changed : (phase : Phase) (s : ServerData) (p : ChangeData)
    → as_sent (step_in phase s (did_change (Some p))).answer ≡ changed
    → change_refusal s.config.limits (units_in (session_encoding s)) s.table p.uri p.version
    (map content_change_from_data p.changes) ≡ None
step_changed Running s p e =
    obeyed_changed s (command_refusal s.config.limits s.table (change_command s p))
    (table_after s.table (change_command s p)) e
step_changed _ s p e = cc

unless_bad_is : (a b : Bool) (s : Session) (j : Judged) (answer : AnswerData Sent)
    → (if a then judged bad s else if b then judged bad s else j).verdict ≡ answered answer → j.verdict
    ≡ answered answer
unless_bad_is false false s j answer e = e
unless_bad_is _ _ s j answer e = cc

same_answer : (a b : AnswerData Sent) → answered a ≡ answered b → a ≡ b
same_answer a b e = cc

pub accepted : (s : Session) (version : Version) (p : ChangeData)
    → (judge_client s version (did_change (Some p))).verdict ≡ answered changed
    → change_refusal s.server.config.limits (units_in (session_encoding s.server)) s.server.table p.uri p.version
    (map content_change_from_data p.changes) ≡ None
accepted s version p e = step_changed s.server.phase s.server p (same_answer _ _ (unless_bad_is _ _ s _ changed e))

-- ---- what a session makes of a change

pub running_accepted : (s : Session) (version : Version) (p : ChangeData) → s.server.phase ≡ Running → s.expected ≡ None
    → refusal_of s.server p ≡ None → (judge_client s version (did_change (Some p))).verdict ≡ answered changed
running_accepted s version p running none may = rw (running, none, may) refl

pub running_leaves : (s : Session) (version : Version) (p : ChangeData) → s.server.phase ≡ Running → s.expected ≡ None
    → refusal_of s.server p ≡ None → (judge_client s version (did_change (Some p))).session.server
    ≡ server_after s.server p
running_leaves s version p running none may = rw (running, none, may) refl

-- ---- an accepted change

-- the session once a change is done, but for its counts
abbrev pub session_after : Session → ChangeData → Session
session_after s p = record s { server = server_after s.server p }

module _ (s : Session) (version : Version) (p : ChangeData) where
  -- only a running server accepts it
  pub accepts : (phase : Phase) → s.server.phase ≡ phase → (expected : Option IdData) → s.expected ≡ expected
      → (judge_client s version (did_change (Some p))).verdict ≡ answered changed
      → (s.server.phase ≡ Running) × (s.expected ≡ None)
  accepts Running is None none e = (is, none)
  accepts New is None none e = absurd (let wrong = rw (is, none) at e in cc)
  accepts Down is (Some id) some e = absurd (let wrong = rw (is, some) at e in cc)
  accepts Ended is expected waits e = absurd (let wrong = rw is at e in cc)
  accepts _ is _ it e = absurd (let wrong = rw (is, it) at e in cc)

pub done_session : (s : Session) (version : Version) (p : ChangeData) → s.server.phase ≡ Running → s.expected ≡ None
    → refusal_of s.server p ≡ None
    → (counted (judge_client s version (did_change (Some p)))).session ≡ numbered (one_more s.records)
    (one_more s.messages) (session_after s p)
done_session s version p running waits may = rw (running, waits, may) refl
