-- A server over the records of a log: the judgement of each record, and what is counted (LSP 3.17,
-- Lifecycle Messages).
use Rattle.std.specs.Prelude.{◌&&◌, ◌==◌, if◌then◌else◌}
use Rattle.log_session.specs.Prelude.{ℕ, Bool, true, false, not, List, Option, Some, None, is_some, option_and_then, option_map, bytes_eq, Data, Announced, ErrorCode, MethodNotFound, IdData, Reading, reading, announced_of, Phase, New, Running, Ended, IncomingData, incoming_of, did_change, initialize, AnswerData, reply, changed, refused, exits, Sent, as_sent, Config, ServerData, new_server, step_on, with_encoding, Outcome, one_more, Version, Two, Sender, Record, did_open}
use Rattle.std.specs.Ordering.{int_eq}
use Rattle.lsp_text.specs.declared.encoding.Encoding.{Encoding}
use Rattle.lsp_log.specs.declared.record.Sender.TheVariants.{Client, Server}
use Rattle.lsp_message.specs.declared.agreement.SyncKind.{SyncKind}
use Rattle.lsp_message.specs.declared.agreement.SyncKind.TheVariants.{Incremental}
use Rattle.log_session.specs.declared.outcome.Missing.{Missing}
use Rattle.lsp_message.specs.Message as read
use Rattle.log_session.specs.declared.outcome.Missing.TheVariants as missing

-- A server that is run on a log, and what is counted.
pub record Session : Type 0 where
  -- the server that the client's records are handed to
  pub server : ServerData
  -- in a log of version 2, the id of the accepted `initialize` until its result has come
  pub expected : Option IdData
  -- how many records were judged
  pub records : ℕ
  -- how many bodies were handled
  pub messages : ℕ
  -- how many of those were refused
  pub refusals : ℕ

-- The judgement of a record: a client's is answered, a server's is recorded, and one that can't be
-- in a log is bad.
pub data Verdict : Type 0 where
  answered : AnswerData Sent → Verdict
  recorded bad : Verdict

-- The judgement of a record, and the session after it.
pub record Judged : Type 0 where
  pub verdict : Verdict
  pub session : Session

-- The two as a record.
abbrev pub judged : Verdict → Session → Judged
judged verdict s = record { verdict = verdict; session = s }

-- ---- what counts as refused

-- An error reply counts, but for an unknown method.
abbrev pub is_refusing : Option ErrorCode → Bool
is_refusing None = false
is_refusing (Some MethodNotFound) = false
is_refusing (Some error) = true

-- A refusal counts as refused, and so does an `exit` without `shutdown`.
abbrev pub is_refused : AnswerData Sent → Bool
is_refused (reply m) = is_refusing m.code
is_refused (refused refusal) = true
is_refused (exits status) = not (status == 0)
is_refused answer = false

-- Does a record change documents?
abbrev pub has_changed : Verdict → Bool
has_changed (answered changed) = true
has_changed verdict = false

-- Does a record count as refused?
abbrev pub refuses : Verdict → Bool
refuses (answered answer) = is_refused answer
refuses verdict = false

-- A count, raised if this counts.
abbrev pub count_if : Bool → ℕ → ℕ
count_if counts count = if counts then one_more count else count

-- ---- a client's record

-- No `initialize` was accepted yet, and no `exit` came.
abbrev pub is_new : Phase → Bool
is_new New = true
is_new phase = false

-- `initialize` was accepted, and neither `shutdown` nor `exit` came.
abbrev pub is_running : Phase → Bool
is_running Running = true
is_running phase = false

-- `exit` came.
abbrev pub is_ended : Phase → Bool
is_ended Ended = true
is_ended phase = false

-- A `didChange`, with valid parameters or not.
abbrev pub is_change : IncomingData → Bool
is_change (did_change params) = true
is_change m = false

-- A change to a running server comes too early if the result of `initialize`, which says its
-- encoding, is still to come.
abbrev pub is_early : Session → IncomingData → Bool
is_early s m = is_some s.expected && is_running s.server.phase && is_change m

-- The id of the `initialize` that is accepted. In a log of version 2 its result is waited for. Where
-- the real server answered by an error, the result never comes, and the first change is bad. Any
-- other message changes nothing of that.
abbrev pub expected_of : Version → IncomingData → Option IdData → Option IdData
expected_of Two (initialize id (Some offers)) expected = Some id
expected_of version m expected = expected

-- The id whose result is waited for after a message.
abbrev pub expected_after : Session → Version → IncomingData → Option IdData
expected_after s version m = if is_new s.server.phase then expected_of version m s.expected else
    s.expected

-- The server answered a message, which is counted.
abbrev pub handled : Session → Version → IncomingData → ServerData → AnswerData Sent → Judged
handled s version m server answer =
    judged (answered answer) (record s {
      server = server;
      expected = expected_after s version m;
      messages = one_more s.messages;
      refusals = count_if (is_refused answer) s.refusals;
    })

-- A message in a log of a version. After `exit` it is bad, and so is an early change. Any other is
-- answered.
abbrev pub judge_client : Session → Version → IncomingData → Judged
judge_client s version m =
    if is_ended s.server.phase then judged bad s
    else if is_early s m then judged bad s
    else handled s version m (step_on s.server m).state (as_sent (step_on s.server m).answer)

-- ---- a server's record, of which the result of `initialize` alone is read

-- Are two ids equal?
abbrev pub same_id : IdData → IdData → Bool
same_id (read.whole m) (read.whole n) = int_eq m n
same_id (read.text s) (read.text t) = bytes_eq s t
same_id id other = false

-- The result in a body that is the response to the request with this id.
abbrev pub result_for : IdData → Reading → Option Data
result_for id (read.message (read.response (Some other) (read.given result))) =
    if same_id id other then Some result else None
result_for id body = None

-- The encoding that a result of `initialize` announces, if it can be read and the encoding is
-- known.
abbrev pub encoding_in : Data → Option Encoding
encoding_in result = option_and_then (λ (a : Announced). a.encoding) (announced_of result)

-- What a body announces by the result that is waited for. `None`: it isn't that result.
-- `Some None`: it is, and it can't be read or names an encoding that nobody knows.
abbrev pub encoding_for : Option IdData → Reading → Option (Option Encoding)
encoding_for expected body =
    option_map encoding_in (option_and_then (λ id. result_for id body) expected)

-- The session continues in the encoding that is announced. Without a known one the record is bad.
-- Any other body is recorded.
abbrev pub judge_server : Session → Option (Option Encoding) → Judged
judge_server s None = judged recorded s
judge_server s (Some None) = judged bad s
judge_server s (Some (Some encoding)) =
    judged recorded (record s { server = with_encoding s.server encoding; expected = None })

-- ---- any record

-- A record of one side, in a log of a version.
abbrev pub judge_from : Session → Version → Sender → List ℕ → Judged
judge_from s version Client body = judge_client s version (incoming_of (reading body))
judge_from s version Server body = judge_server s (encoding_for s.expected (reading body))

-- One more record was judged.
abbrev pub counted : Judged → Judged
counted j = record j { session = record j.session { records = one_more j.session.records } }

-- The judgement of a record, and the session after it.
abbrev pub judge : Session → Record → Judged
judge s r = counted (judge_from s r.head.version r.head.side r.body)

-- The session of a log before its first record, over a new server.
abbrev pub opened : Config → Session
opened config
    = record {
      server = new_server config;
      expected = None;
      records = 0;
      messages = 0;
      refusals = 0;
    }

-- The outcome of a log command: status 1 if something was refused, else 0.
abbrev pub session_outcome : Session → Outcome
session_outcome s = record {
  status = (if s.refusals == 0 then 0 else 1);
  messages = s.messages;
  refused = s.refusals;
  missing = None;
}

-- ---- whether the server asked for ranges, which a log of version 2 says

-- Does a kind of synchronisation ask for ranges?
abbrev pub is_incremental : SyncKind → Bool
is_incremental Incremental = true
is_incremental kind = false

-- Does a result of `initialize` ask for ranges?
abbrev pub asks_ranges : Option Announced → Bool
asks_ranges None = false
asks_ranges (Some announced) = is_incremental announced.kind

-- Were ranges asked for, by a result of `initialize` if there is one?
abbrev pub ranged_by : Bool → Option Data → Bool
ranged_by ranged None = ranged
ranged_by ranged (Some result) = asks_ranges (announced_of result)

-- The same by a server's body, which may be the result that is waited for.
abbrev pub ranged_for : Bool → Option IdData → List ℕ → Bool
ranged_for ranged None body = ranged
ranged_for ranged (Some id) body = ranged_by ranged (result_for id (reading body))

-- Were ranges asked for, after a record?
abbrev pub ranged_after : Bool → Session → Sender → List ℕ → Bool
ranged_after ranged s Client body = ranged
ranged_after ranged s Server body = ranged_for ranged s.expected body

-- ---- the document that a record opens

-- The URI in valid parameters of an editor's `didOpen`.
abbrev pub uri_opened : Sender → IncomingData → Option (List ℕ)
uri_opened Client (did_open (Some p)) = Some p.uri
uri_opened side m = None

-- That URI, if the record was accepted.
abbrev pub opened_if : Verdict → Option (List ℕ) → Option (List ℕ)
opened_if verdict uri = if has_changed verdict then uri else None

abbrev pub opened_in : Record → Judged → Option (List ℕ)
opened_in r j = opened_if j.verdict (uri_opened r.head.side (incoming_of (reading r.body)))

-- The outcome of a part of which something is missing.
abbrev pub lacking : Missing → Outcome → Outcome
lacking what outcome = record outcome { status = 1; missing = Some what }
