-- One step of a session: what a server answers to a body, and its state afterwards (LSP 3.17, Base
-- Protocol, Lifecycle Messages, Text Document Synchronization).
use Rattle.lsp_server.specs.Prelude.{List, [], map, option_map, unwrap_or, Option, Some, None, Result, Ok, Err, Encoding, Utf16, Offers, ErrorCode, IdData, Reading, OutgoingData, initialize_result, shutdown_result, error_reply, DocumentItem, ContentChangeData, ChangeData, CloseData, refusal_fault, Store, Config, Phase, New, Running, Down, Ended, IncomingData, not_json, not_a_message, initialize, shutdown, other_request, exit, did_open, did_change, did_close, other_notification, incoming_of}
use Rattle.std.specs.Str.{chars}
use Rattle.lsp_edit.specs.Batch.{ContentChange}
use Rattle.lsp_message.specs.declared.outgoing.ErrorCode.TheVariants.{ParseError, InvalidRequest, MethodNotFound, InvalidParams, ServerNotInitialized}
use Rattle.lsp_store.specs.Table as table
use Rattle.lsp_store.specs.Table.{Command, opens, changes, closes, after_command}
use Rattle.lsp_server.specs.declared.answer.Refusal.TheVariants.{InvalidParams as params_invalid}
use Rattle.lsp_server.specs.Answer.{AnswerData, reply, changed, dropped, ignored, already_ended, refused, exits}
use Rattle.lsp_server.specs.Choice.{encoding_chosen, announced_kind}
use Rattle.lsp_message.specs.Incoming.{response}

-- A server: its configuration, its phase, the chosen encoding, if there is one, and the open
-- documents.
pub record ServerData : Type 0 where
  pub config : Config
  pub phase : Phase
  pub encoding : Option Encoding
  pub table : List DocumentItem

-- What a server answers, and its state afterwards.
pub record Step : Type 0 where
  pub answer : AnswerData OutgoingData
  pub state : ServerData

-- A new server.
abbrev pub new_server : Config → ServerData
new_server config = record { config = config; phase = New; encoding = None; table = [] }

-- ---- what a step may do

-- A step that answers and changes nothing.
abbrev pub unchanged_step : ServerData → AnswerData OutgoingData → Step
unchanged_step s answer = record { answer = answer; state = s }

-- A step that answers with an error response and changes nothing.
abbrev pub error_step : ServerData → Option IdData → ErrorCode → Step
error_step s id error = unchanged_step s (reply (error_reply id error))

-- A step to another phase.
abbrev pub phase_step : ServerData → Phase → AnswerData OutgoingData → Step
phase_step s phase answer = record { answer = answer; state = record s { phase = phase } }

-- An accepted `initialize`, in this encoding.
abbrev pub begin_step_in : ServerData → IdData → Encoding → Step
begin_step_in s id encoding =
    record {
      answer = reply (initialize_result id encoding (announced_kind s.config.sync));
      state = record s { phase = Running; encoding = Some encoding };
    }

-- An accepted `initialize`, in the encoding chosen among those that the client offers.
abbrev pub begin_step : ServerData → IdData → Offers → Step
begin_step s id offers = begin_step_in s id (encoding_chosen s.config.choice offers)

-- The step of a command with this result.
abbrev pub result_step : ServerData → Result (List DocumentItem) table.Refusal → Step
result_step s (Ok next) = record { answer = changed; state = record s { table = next } }
result_step s (Err refusal) = unchanged_step s (refused (Store (refusal_fault refusal)))

-- A step that runs a command on the open documents, or refuses it.
abbrev pub command_step : ServerData → Command → Step
command_step s command = result_step s (after_command s.config.limits s.table command)

-- ---- commands

-- A change, with its text as characters.
abbrev pub content_change_from_data : ContentChangeData → ContentChange
content_change_from_data e = record { range = e.range; text = chars e.text }

-- The encoding of changes. Before one is chosen there are no changes; UTF-16 is the protocol's
-- default.
abbrev pub session_encoding : ServerData → Encoding
session_encoding s = unwrap_or s.encoding Utf16

-- The command of a `textDocument/didChange`.
abbrev pub change_command : ServerData → ChangeData → Command
change_command s p = changes p.uri p.version (session_encoding s) (map content_change_from_data p.changes)

-- The command of a `textDocument/didClose`.
abbrev pub close_command : CloseData → Command
close_command p = closes p.uri

-- A server with another encoding of changes. Before one is chosen nothing changes.
abbrev pub with_encoding : ServerData → Encoding → ServerData
with_encoding s encoding = record s { encoding = option_map (λ _. encoding) s.encoding }

-- ---- the table of steps: the first row that fits decides

-- The step in a phase.
abbrev pub step_in : Phase → ServerData → IncomingData → Step
-- After `exit` there is no answer.
step_in Ended s m = unchanged_step s already_ended
-- A body that is no JSON, or JSON and no message, is answered with an error response in every other
-- phase (Response Message).
step_in phase s not_json = error_step s None ParseError
step_in phase s (not_a_message id) = error_step s id InvalidRequest
-- The server sends no requests, so it ignores responses.
step_in phase s (response id) = unchanged_step s ignored
-- `exit` ends the session: with status 0 after `shutdown`, else with 1 (Exit Notification).
step_in Down s exit = phase_step s Ended (exits 0)
step_in phase s exit = phase_step s Ended (exits 1)
-- `initialize` begins the session, if its params are valid (Initialize Request).
step_in New s (initialize id None) = error_step s (Some id) InvalidParams
step_in New s (initialize id (Some offers)) = begin_step s id offers
-- Before it any other request is an error, and notifications are dropped (Initialize Request).
step_in New s (shutdown id) = error_step s (Some id) ServerNotInitialized
step_in New s (other_request id method) = error_step s (Some id) ServerNotInitialized
step_in New s notification = unchanged_step s dropped
-- `initialize` is accepted only once (Initialize Request). The standard says that it comes once;
-- this error is this project's choice.
step_in Running s (initialize id offers) = error_step s (Some id) InvalidRequest
-- `shutdown` has a result, and from then on only `exit` is awaited (Shutdown Request).
step_in Running s (shutdown id) = phase_step s Down (reply (shutdown_result id))
-- No other request is known.
step_in Running s (other_request id method) = error_step s (Some id) MethodNotFound
-- The document notifications are accepted whether or not `initialized` came (DidOpen, DidChange,
-- DidClose Text Document Notification).
step_in Running s (did_open (Some p)) = command_step s (opens p)
step_in Running s (did_change (Some p)) = command_step s (change_command s p)
step_in Running s (did_close (Some p)) = command_step s (close_command p)
step_in Running s (did_open None) = unchanged_step s (refused params_invalid)
step_in Running s (did_change None) = unchanged_step s (refused params_invalid)
step_in Running s (did_close None) = unchanged_step s (refused params_invalid)
-- Any other notification is ignored, also one whose name begins with `$/`.
step_in Running s (other_notification method) = unchanged_step s ignored
-- After `shutdown` requests are errors (Shutdown Request). The standard has a client send no other
-- notification but `exit`; that one which comes is dropped is this project's choice.
step_in Down s (initialize id offers) = error_step s (Some id) InvalidRequest
step_in Down s (shutdown id) = error_step s (Some id) InvalidRequest
step_in Down s (other_request id method) = error_step s (Some id) InvalidRequest
step_in Down s notification = unchanged_step s dropped

-- What a server answers to what a body asks, and its state afterwards.
abbrev pub step_on : ServerData → IncomingData → Step
step_on s m = step_in s.phase s m

-- What a server answers to a body, and its state afterwards, by what the body is read as.
abbrev pub step : ServerData → Reading → Step
step s body = step_on s (incoming_of body)
