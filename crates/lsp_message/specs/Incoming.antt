-- What a body asks of a server (LSP 3.17, Lifecycle Messages, Text Document Synchronization). Of
-- other requests and notifications the method is kept, and of a response its id.
use Rattle.std.specs.Prelude.{if◌then◌else◌}
use Rattle.lsp_message.specs.Prelude.{ℕ, List, Option, codes, bytes_eq, Data, Offers}
use Rattle.lsp_message.specs.Agreement.{offers_of}
use Rattle.lsp_message.specs.Message.{IdData, MessageData, Reading}
use Rattle.lsp_message.specs.Message as read
use Rattle.lsp_message.specs.Params.{DocumentItem, ChangeData, CloseData, open_of, change_of, close_of}

-- What a body asks. Params that don't fit their method are none.
pub data IncomingData : Type 0 where
  not_json : IncomingData
  not_a_message : Option IdData → IncomingData
  response : Option IdData → IncomingData
  initialize : IdData → Option Offers → IncomingData
  shutdown : IdData → IncomingData
  other_request : IdData → List ℕ → IncomingData
  exit : IncomingData
  did_open : Option DocumentItem → IncomingData
  did_change : Option ChangeData → IncomingData
  did_close : Option CloseData → IncomingData
  other_notification : List ℕ → IncomingData

-- What a request asks, by its method. A request `exit` is another request.
abbrev pub request_of : IdData → List ℕ → Option Data → IncomingData
request_of id method params =
    if bytes_eq method (codes "initialize") then initialize id (offers_of params)
    else if bytes_eq method (codes "shutdown") then shutdown id
    else other_request id method

-- What a notification asks, by its method.
abbrev pub notification_of : List ℕ → Option Data → IncomingData
notification_of method params =
    if bytes_eq method (codes "exit") then exit
    else if bytes_eq method (codes "textDocument/didOpen") then did_open (open_of params)
    else if bytes_eq method (codes "textDocument/didChange") then did_change (change_of params)
    else if bytes_eq method (codes "textDocument/didClose") then did_close (close_of params)
    else other_notification method

-- What a message asks.
abbrev pub incoming_by : MessageData → IncomingData
incoming_by (read.request id method params) = request_of id method params
incoming_by (read.notification method params) = notification_of method params
incoming_by (read.response id outcome) = response id

-- What a body asks, by what it is read as.
abbrev pub incoming_of : Reading → IncomingData
incoming_of read.not_json = not_json
incoming_of (read.not_a_message id) = not_a_message id
incoming_of (read.message m) = incoming_by m
