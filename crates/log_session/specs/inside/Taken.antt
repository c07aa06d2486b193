-- What became of a record whose body was read.
use Rattle.std.specs.Prelude.{◌≡◌, ◌≢◌, ◌&&◌, if◌then◌else◌}
use Rattle.log_session.specs.Prelude.{ℕ, Bool, is_none, List, Option, Some, None, option_map, Head, reading, ChangeData, change_view, changed, incoming_of, ServerData, Taken, map, after_change, change_refusal, units_in, content_change_from_data, session_encoding, SquashData, squash_after}
use Rattle.log_session.specs.Canonical.{change_in}
use Rattle.log_session.specs.Session.{ranged_for, Session, Verdict, answered, is_running}
use Rattle.log_session.specs.inside.Bodies.{BodyData, IsChangeTaken, body_read, change_of, from_client, from_server, judge_at}
use Rattle.log_session.specs.inside.Verdicts.{verdict_view}
use Rattle.lsp_store.specs.Table.{Refusal}

-- The params of a change that a running server receives.
abbrev pub received_of : Session → BodyData → Option ChangeData
received_of s read =
    if is_running s.server.phase && is_none s.expected then change_of read else None

-- Were ranges asked for after a record? `ranged` says it where the record does.
abbrev pub ranged_with : Bool → Option Bool → Bool
ranged_with before None = before
ranged_with before (Some ranged) = ranged

-- The same by what was read of a record.
abbrev pub ranged_read : Bool → Session → BodyData → Bool
ranged_read before s (from_client version m) = before
ranged_read before s (from_server body) = ranged_for before s.expected body

abbrev pub IsHeard : Session → BodyData → Taken → Type 0
IsHeard s read taken =
    (before : Bool) → ranged_with before taken.ranged ≡ ranged_read before s read

-- ---- a change that a running server receives

-- Why a running server refuses a change, if it does.
abbrev pub refusal_of : ServerData → ChangeData → Option Refusal
refusal_of server p
    = change_refusal server.config.limits (units_in (session_encoding server)) server.table p.uri
    p.version (map content_change_from_data p.changes)

-- The server after the change.
abbrev pub server_after : ServerData → ChangeData → ServerData
server_after server p
    = record server {
      table
          = after_change (units_in (session_encoding server)) server.table p.uri p.version
          (map content_change_from_data p.changes);
    }

-- The batch of a change, after the batches of a squash.
abbrev pub joined_by : ChangeData → SquashData → SquashData
joined_by p squash = squash_after squash p.version (map content_change_from_data p.changes)

-- ---- what is shown to a witness

-- The params of a change that is accepted.
abbrev pub accepted_if : Option ChangeData → Verdict → Option ChangeData
accepted_if (Some p) (answered changed) = Some p
accepted_if change verdict = None

-- The same of a record with this head and body.
abbrev pub accepted_of : Session → Head → List ℕ → Option ChangeData
accepted_of s head body =
    accepted_if (change_in (incoming_of (reading body))) (judge_at s head body).verdict

-- A witness has seen a change that is accepted, before it was applied; without one it is the same.
abbrev pub IsShown : Type 0 → (ServerData → ChangeData → Type 0) → Session → Session
    → Option ChangeData → Type 0
IsShown Same HasSeen old new None = Same
IsShown Same HasSeen old new (Some p) =
    HasSeen old.server p × (new.server ≡ server_after old.server p)

-- ---- what became of a record

-- A record with this head and body was taken, and shown to a witness.
pub record IsTaken (Same : Type 0) (HasSeen : ServerData → ChangeData → Type 0) (old new : Session)
    (head : Head) (body : List ℕ) (taken : Taken) : Type 0 where
  pub judged : verdict_view taken.verdict ≡ (judge_at old head body).verdict
  pub session : new ≡ (judge_at old head body).session
  pub change : option_map change_view taken.change
      ≡ received_of old (body_read head.version head.side body)
  pub heard : IsHeard old (body_read head.version head.side body) taken
  pub shown : IsShown Same HasSeen old new (accepted_of old head body)

-- So it was, whatever record this was read of.
abbrev pub IsTakenAs : Type 0 → (ServerData → ChangeData → Type 0) → Session → Session → BodyData
    → Taken → Type 0
IsTakenAs Same HasSeen old new read taken =
    (head : Head) (body : List ℕ) → read ≡ body_read head.version head.side body
    → IsTaken Same HasSeen old new head body taken

-- A change that a running server receives was judged, and shown to a witness if it is accepted.
pub record IsChangeWitnessed (Same : Type 0) (HasSeen : ServerData → ChangeData → Type 0)
    (old new : Session) (p : ChangeData) (verdict : Verdict) : Type 0 where
  pub taken : IsChangeTaken old p verdict new
  pub accepted : refusal_of old.server p ≡ None →
      HasSeen old.server p × (new.server ≡ server_after old.server p)
  pub refused : refusal_of old.server p ≢ None → Same
