-- Which records stay where others are left out: those about the session and the documents' texts
-- (LSP 3.17, Lifecycle Messages, Text Document Synchronization).
use Rattle.std.specs.Prelude.{◌||◌, if◌then◌else◌, ◌∷◌}
use Rattle.log_session.specs.Prelude.{ℕ, Bool, true, false, not, List, [], Option, Some, None, codes, bytes_eq, IdData, Reading, reading, Phase, IncomingData, response, initialize, shutdown, other_request, other_notification, incoming_of, Sender, Head, Record, version_line}
use Rattle.lsp_log.specs.declared.record.Sender.TheVariants.{Client, Server}
use Rattle.log_session.specs.RunOutput.{RunOutput}
use Rattle.log_session.specs.Session.{Session, is_ended, is_running, judge, same_id}
use Rattle.lsp_message.specs.Message as read

-- ---- which records stay

-- The notifications that stay beside `exit` and those of open documents. Some clients send
-- `shutdown` as a notification.
abbrev pub is_kept_method : List ℕ → Bool
is_kept_method method =
    bytes_eq method (codes "initialized") || bytes_eq method (codes "shutdown")
    || bytes_eq method (codes "textDocument/didSave")

-- Does a client's message stay? A response doesn't, nor does a request that a running server
-- doesn't know, nor any other notification. What is refused stays, and after `exit` each record, so
-- that the log ends there as a bad one.
abbrev pub message_stays : Phase → IncomingData → Bool
message_stays phase (response id) = is_ended phase
message_stays phase (other_request id method) = not (is_running phase)
message_stays phase (other_notification method) = is_ended phase || is_kept_method method
message_stays phase m = true

-- Is a body the response to the request with this id, with a result or an error?
abbrev pub is_answer_to : Option IdData → Reading → Bool
is_answer_to (Some id) (read.message (read.response (Some other) outcome)) = same_id id other
is_answer_to id body = false

-- Does a record stay? One of the server's does if it answers the accepted `initialize`, or the last
-- request that stayed, whose id is `waiting`.
abbrev pub record_stays : Session → Option IdData → Sender → List ℕ → Bool
record_stays s waiting Client body
    = message_stays s.server.phase (incoming_of (reading body))
record_stays s waiting Server body
    = is_answer_to s.expected (reading body) || is_answer_to waiting (reading body)

-- The id of the last request that stayed, after a message that stays.
abbrev pub waiting_for : Option IdData → IncomingData → Option IdData
waiting_for waiting (initialize id offers) = Some id
waiting_for waiting (shutdown id) = Some id
waiting_for waiting (other_request id method) = Some id
waiting_for waiting m = waiting

-- The same after a record that stays. Once it is answered nothing is waited for.
abbrev pub waiting_after : Option IdData → Sender → List ℕ → Option IdData
waiting_after waiting Client body = waiting_for waiting (incoming_of (reading body))
waiting_after waiting Server body
    = if is_answer_to waiting (reading body) then None else waiting

-- ---- the records that stay

-- What is known between two records.
pub record Selection : Type 0 where
  -- the id of the last request that stayed, until a response to it has come
  pub waiting : Option IdData
  -- is the line of version 2 still to be written?
  pub due : Bool

-- Before the first record.
abbrev pub nothing_selected : Selection
nothing_selected = record { waiting = None; due = false }

-- Is the line of version 2 to be written before a record, if it stays?
abbrev pub is_due : Selection → Head → Bool
is_due c head = c.due || head.line_due

-- A record that stays, with the line of version 2 before it, if that is still to be written.
abbrev pub with_line : Selection → Record → Record
with_line c r = record r { head = record r.head { line_due = is_due c r.head } }

-- After a record that stays: the line of version 2 is written with it.
abbrev pub after_kept : Selection → Head → List ℕ → Selection
after_kept c head body
    = record { waiting = waiting_after c.waiting head.side body; due = false }

-- After a record that is left out: the line is still to be written, if it was.
abbrev pub after_left_out : Selection → Head → Selection
after_left_out c head = record c { due = is_due c head }

-- The records that stay of some, and whether the line of version 2 is still to be written after
-- them.
pub record Kept : Type 0 where
  pub records : List Record
  pub due : Bool

-- A record that stays, before some others.
abbrev pub kept_first : Record → Kept → Kept
kept_first r k = record k { records = r ∷ k.records }

-- The records that stay. The session is over these alone: one that is left out changes no document,
-- no phase and no encoding.
abbrev pub kept_in : Session → Selection → List Record → Kept
kept_in s c [] = record { records = []; due = c.due }
kept_in s c (r ∷ rs) =
    if record_stays s c.waiting r.head.side r.body then
    kept_first (with_line c r) (kept_in (judge s r).session (after_kept c r.head r.body) rs)
    else kept_in s (after_left_out c r.head) rs

-- ---- the engine

-- An output at whose end the line of version 2 is written, if it is still due.
abbrev pub with_due : Bool → RunOutput → RunOutput
with_due due c = record c { last = λ line_due. c.last (due || line_due) }

-- The output of an engine for the records that stay.
abbrev pub output_of_kept : (List Record → RunOutput) → Kept → RunOutput
output_of_kept run_output k = with_due k.due (run_output k.records)

-- The line of version 2, if it is due.
abbrev pub line_if : Bool → List ℕ
line_if line_due = if line_due then version_line else []
