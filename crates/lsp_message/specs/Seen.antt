-- The types of `src/` as the definitions see them: `x_view` is the data of an `x`.
use Rattle.std.specs.Prelude.{◌≡◌, ◌≢◌, ◌<◌}
use Rattle.lsp_message.specs.Prelude.{ℕ, ℤ, List, length, slice_index, map, option_map, string_bytes, view, Message, ReadFault, NotJson, NotAMessage, NoMemory}
use Rattle.std.specs.Str.{IsUtf8}
use Rattle.serde_json.specs.Errors.{IsMemory}
use Rattle.serde_json.specs.declared.error.Error.{Error}
use Rattle.lsp_message.specs.declared.message.Id.{Id}
use Rattle.lsp_message.specs.declared.message.Id.TheVariants.{Whole, Text}
use Rattle.lsp_message.specs.declared.message.Outcome.{Outcome}
use Rattle.lsp_message.specs.declared.message.Outcome.TheVariants.{Given, Failed}
use Rattle.lsp_message.specs.declared.message.Message.TheVariants.{Request, Notification, Response}
use Rattle.lsp_edit.specs.declared.change.Change.{Change}
use Rattle.lsp_message.specs.declared.params.OpenParams.{OpenParams}
use Rattle.lsp_message.specs.declared.params.ChangeParams.{ChangeParams}
use Rattle.lsp_message.specs.declared.params.CloseParams.{CloseParams}
use Rattle.lsp_message.specs.declared.outgoing.Outgoing.{Outgoing}
use Rattle.lsp_message.specs.declared.outgoing.Outgoing.TheVariants.{Initialize, Initialized, DidOpen, DidChange, DidClose, Shutdown, Exit, InitializeResult, ShutdownResult, ErrorReply}
use Rattle.lsp_message.specs.declared.reader.incoming.Incoming.{Incoming}
use Rattle.lsp_message.specs.declared.reader.incoming.Incoming.TheVariants as asked
use Rattle.lsp_message.specs.declared.reader.noted.Noted.{Noted}
use Rattle.lsp_message.specs.Incoming as incoming
use Rattle.lsp_message.specs.Lengths.{lengths_noted, params_noted}
use Rattle.lsp_message.specs.Message as spec
use Rattle.lsp_message.specs.Outgoing as out
use Rattle.lsp_message.specs.Params.{DocumentItem, ContentChangeData, ChangeData, CloseData}

-- An id, with its text as bytes.
abbrev pub id_view : Id → spec.IdData
id_view (Whole n) = spec.whole n
id_view (Text s) = spec.text (string_bytes s)

-- The outcome of a request, with its result as JSON data.
abbrev pub outcome_view : Outcome → spec.OutcomeData
outcome_view (Given v) = spec.given (view v)
outcome_view Failed = spec.failed

-- A message, with its params as JSON data.
abbrev pub message_view : Message → spec.MessageData
message_view (Request id method params)
    = spec.request (id_view id) (string_bytes method) (option_map view params)
message_view (Notification method params)
    = spec.notification (string_bytes method) (option_map view params)
message_view (Response id outcome) = spec.response (option_map id_view id) (outcome_view outcome)

-- The params of a `textDocument/didOpen`, with their texts as bytes.
abbrev pub open_view : OpenParams → DocumentItem
open_view p = record {
  uri = string_bytes p.uri;
  language = string_bytes p.language;
  version = p.version;
  text = string_bytes p.text;
}

-- A change, with its text as bytes.
abbrev pub content_change_view : Change → ContentChangeData
content_change_view c = record { range = c.range; text = string_bytes c.text }

-- The params of a `textDocument/didChange`, with their texts as bytes.
abbrev pub change_view : ChangeParams → ChangeData
change_view p
    = record {
      uri = string_bytes p.uri;
      version = p.version;
      changes = map content_change_view p.changes.items;
    }

-- The params of a `textDocument/didChange`, by its URI, version and changes.
abbrev pub change_data : List ℕ → ℤ → List Change → ChangeData
change_data uri version changes
    = record { uri = uri; version = version; changes = map content_change_view changes }

-- The message `textDocument/didChange`, by its URI, version and changes.
abbrev pub did_change_of : List ℕ → ℤ → List Change → out.OutgoingData
did_change_of uri version changes = out.did_change (change_data uri version changes)

-- The params of a `textDocument/didClose`, with the URI as bytes.
abbrev pub close_view : CloseParams → CloseData
close_view p = record { uri = string_bytes p.uri }

-- What a body asks, with its texts as bytes.
abbrev pub incoming_view : Incoming → incoming.IncomingData
incoming_view asked.NotJson = incoming.not_json
incoming_view (asked.NotAMessage id) = incoming.not_a_message (option_map id_view id)
incoming_view (asked.Response id) = incoming.response (option_map id_view id)
incoming_view (asked.Initialize id offers) = incoming.initialize (id_view id) offers
incoming_view (asked.Shutdown id) = incoming.shutdown (id_view id)
incoming_view (asked.OtherRequest id method) = incoming.other_request (id_view id) (string_bytes method)
incoming_view asked.Exit = incoming.exit
incoming_view (asked.DidOpen params) = incoming.did_open (option_map open_view params)
incoming_view (asked.DidChange params) = incoming.did_change (option_map change_view params)
incoming_view (asked.DidClose params) = incoming.did_close (option_map close_view params)
incoming_view (asked.OtherNotification method) = incoming.other_notification (string_bytes method)

-- What was read of a body: what it asks, and what notes go by, of a change its lengths, and of a
-- `didSave` its params. Of any other body notes go by nothing.
pub record IsNoted (body : spec.Reading) (m : Incoming) (noted : Noted) : Type 0 where
  pub asks : incoming_view m ≡ incoming.incoming_of body
  pub lengths : noted.lengths.items ≡ lengths_noted (incoming_view m) body
  pub params : option_map view noted.params ≡ params_noted (incoming_view m) body

-- A message that is written, with its texts as bytes.
abbrev pub outgoing_view : Outgoing → out.OutgoingData
outgoing_view (Initialize offers) = out.initialize offers
outgoing_view Initialized = out.initialized
outgoing_view (DidOpen p) = out.did_open (open_view p)
outgoing_view (DidChange p) = out.did_change (change_view p)
outgoing_view (DidClose p) = out.did_close (close_view p)
outgoing_view Shutdown = out.shutdown
outgoing_view Exit = out.exit
outgoing_view (InitializeResult id encoding kind) = out.initialize_result (id_view id) encoding kind
outgoing_view (ShutdownResult id) = out.shutdown_result (id_view id)
outgoing_view (ErrorReply id error) = out.error_reply (option_map id_view id) error

-- Which fault reading a body reports. Out of memory comes only for a body that is UTF-8, isn't empty
-- and doesn't begin as a byte order mark does.
abbrev pub IsReadFault : List ℕ → ReadFault → Type 0
IsReadFault body NotJson = spec.reading body ≡ spec.not_json
IsReadFault body (NotAMessage id) = spec.reading body ≡ spec.not_a_message (option_map id_view id)
IsReadFault body NoMemory = (0 < length body) × (slice_index body 0 ≢ 239) × IsUtf8 body

-- Which fault an error of `serde_json` becomes.
abbrev pub IsFaultOfError : Error → ReadFault → Type 0
IsFaultOfError error NotJson = ¬ IsMemory error
IsFaultOfError error (NotAMessage id) = ⊥
IsFaultOfError error NoMemory = IsMemory error
