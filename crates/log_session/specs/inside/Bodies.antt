-- The body of a record, as a session reads it once.
use Rattle.std.specs.Prelude.{◌≡◌}
use Rattle.log_session.specs.Prelude.{ℕ, List, Option, Some, None, Head, Version, Sender, reading, ChangeData, Running, IncomingData, did_change, incoming_of, incoming_view, RecordBody}
use Rattle.log_session.specs.declared.session.RecordBody.TheVariants.{Client, Server}
use Rattle.log_session.specs.Canonical.{change_in}
use Rattle.log_session.specs.Session.{Session, Judged, Verdict, counted, encoding_for, judge_client, judge_from, judge_server}
use Rattle.lsp_log.specs.declared.record.Sender.TheVariants as side

-- What a client's record in a log of a version asks of the server, or the body of a server's
-- record.
pub data BodyData : Type 0 where
  from_client : Version → IncomingData → BodyData
  from_server : List ℕ → BodyData

-- A body that was read, as its value.
abbrev pub body_view : RecordBody → BodyData
body_view (Client version incoming noted) = from_client version (incoming_view incoming)
body_view (Server body) = from_server body.now

-- The body of a record of one side, in a log of a version.
abbrev pub body_read : Version → Sender → List ℕ → BodyData
body_read version side.Client body = from_client version (incoming_of (reading body))
body_read version side.Server body = from_server body

-- The judgement of a record with this head and body.
abbrev pub judge_at : Session → Head → List ℕ → Judged
judge_at s head body = counted (judge_from s head.version head.side body)

-- The judgement of a record by what was read of its body.
abbrev pub judge_read : Session → BodyData → Judged
judge_read s (from_client version m) = judge_client s version m
judge_read s (from_server body) = judge_server s (encoding_for s.expected (reading body))

-- What is said of a client's record by what it asks. Of a server's it is `none`.
abbrev pub on_client : {A : Type 0} → A → (IncomingData → A) → BodyData → A
on_client none says (from_client version m) = says m
on_client none says (from_server body) = none

-- The parameters of a client's `didChange`, if they are valid.
abbrev pub change_of : BodyData → Option ChangeData
change_of (from_client version m) = change_in m
change_of (from_server body) = None

-- A record is a change with these parameters that a running server is to receive.
pub record IsReceived (s : Session) (read : BodyData) (p : ChangeData) : Type 0 where
  pub is : change_of read ≡ Some p
  pub running : s.server.phase ≡ Running
  pub known : s.expected ≡ None

-- A change that a running server receives was judged and counted, whatever the log's version.
pub record IsChangeTaken (s : Session) (p : ChangeData) (verdict : Verdict) (new : Session) :
    Type 0 where
  pub judged : (version : Version)
      → verdict ≡ (judge_client s version (did_change (Some p))).verdict
  pub session : (version : Version)
      → new ≡ (counted (judge_client s version (did_change (Some p)))).session
