-- One step of the client's end of a session (LSP 3.17, Lifecycle Messages, Text Document
-- Synchronization). The tables say which calls it accepts, which message each sends, and what it
-- does with what the server sends.
use Rattle.std.specs.Prelude.{◌==◌, if◌then◌else◌}
use Rattle.lsp_client.specs.Prelude.{ℕ, ℤ, Bool, true, false, List, [], Option, Some, None, unwrap_or, Result, Ok, Err, pos, LimitsData, ContentChange, SyncKind, OutgoingData, initialize, initialized, did_open, did_close, shutdown, exit, error_reply, body_of, DocumentItem, refusal_fault, Command, command_refusal, table_after, canonical_batch, whole_batch, change_message, body_refusal, else_refused, ClientFault, WrongPhase, Store, New, Asked, Ready, Closing, Closed, Done, Failed}
use Rattle.lsp_text.specs.declared.encoding.Encoding.{Encoding}
use Rattle.lsp_text.specs.declared.encoding.Encoding.TheVariants.{Utf16}
use Rattle.lsp_text.specs.Units.{units_in}
use Rattle.lsp_message.specs.declared.agreement.Announced.{Announced}
use Rattle.lsp_message.specs.declared.agreement.Offers.{Offers}
use Rattle.lsp_message.specs.declared.agreement.SyncKind.TheVariants.{Off, Full, Incremental}
use Rattle.lsp_message.specs.declared.outgoing.ErrorCode.TheVariants.{MethodNotFound}
use Rattle.lsp_message.specs.Agreement.{is_offered, announced_of}
use Rattle.lsp_message.specs.Message.{whole, given, failed, Reading, message, request, notification, response}
use Rattle.lsp_store.specs.Table as documents
use Rattle.lsp_client.specs.declared.agreed.Agreed.{Agreed}
use Rattle.lsp_client.specs.declared.phase.Phase.{Phase}
use Rattle.lsp_client.specs.declared.phase.Reason.{Reason}
use Rattle.lsp_client.specs.declared.phase.Reason.TheVariants.{NotAnAnswer, ErrorAnswer, NoSync, BadEncoding}

-- A client: its limits, the encodings that it offers, its phase, what was agreed on, if anything,
-- and the open documents.
pub record ClientData : Type 0 where
  pub limits : LimitsData
  pub offers : Offers
  pub phase : Phase
  pub agreed : Option Agreed
  pub table : List DocumentItem

-- A new client.
abbrev pub new_client : LimitsData → Offers → ClientData
new_client limits offers =
    record { limits = limits; offers = offers; phase = New; agreed = None; table = [] }

-- ---- calls

-- A call on the open documents: open one; edit one, by its URI, new version and batch of changes;
-- close one, by its URI.
pub data Order : Type 0 where
  opens : DocumentItem → Order
  edits : List ℕ → ℤ → List ContentChange → Order
  closes : List ℕ → Order

-- A call of the client.
pub data Call : Type 0 where
  starts shuts_down exits : Call
  orders : Order → Call

-- What an accepted call sends, and the client's new state.
pub record Sending : Type 0 where
  pub message : OutgoingData
  pub state : ClientData

-- What was agreed on. Before that there are no orders; UTF-16 is the protocol's default.
abbrev pub agreement : ClientData → Agreed
agreement s = unwrap_or s.agreed (record { encoding = Utf16; kind = Incremental })

-- The command of an order, whose changes are in the encoding that was agreed on.
abbrev pub command_of : Encoding → Order → Command
command_of encoding (opens entry) = documents.opens entry
command_of encoding (edits uri version batch) = documents.changes uri version encoding batch
command_of encoding (closes uri) = documents.closes uri

-- The batch that is sent for a batch: under Full the document's new text, else the canonical one.
abbrev pub sent_batch : SyncKind → (ℕ → ℕ) → List DocumentItem → List ℕ → ℤ → List ContentChange → List ContentChange
sent_batch Full units table uri version batch = whole_batch units table uri version batch
sent_batch kind units table uri version batch = canonical_batch units table uri batch

-- The message of a command on a table (DidOpen-, DidChange-, DidCloseTextDocument).
abbrev pub sent_message : SyncKind → List DocumentItem → Command → OutgoingData
sent_message kind table (documents.opens entry) = did_open entry
sent_message kind table (documents.changes uri version encoding batch) =
    change_message uri version (sent_batch kind (units_in encoding) table uri version batch)
sent_message kind table (documents.closes uri) = did_close (record { uri = uri })

-- The body of the message of a command on a table.
unfoldable pub sent_body : SyncKind → List DocumentItem → Command → List ℕ
sent_body kind table command = body_of (sent_message kind table command)

-- What a call sends, unless there is a refusal.
abbrev pub sending_unless : Option documents.Refusal → Sending → Result Sending ClientFault
sending_unless (Some refusal) sending = Err (Store (refusal_fault refusal))
sending_unless None sending = Ok sending

-- What a command sends and the client's new state, or why it is refused: as the store refuses it,
-- then because the body to send is too long.
abbrev pub command_result : ClientData → SyncKind → Command → Result Sending ClientFault
command_result s kind command =
    sending_unless
    (else_refused
    (command_refusal s.limits s.table command)
    (body_refusal s.limits (sent_body kind s.table command)))
    (record {
      message = sent_message kind s.table command;
      state = record s { table = table_after s.table command };
    })

-- A message of the session's lifecycle is sent, and the client enters this phase.
abbrev pub lifecycle_result : ClientData → Phase → OutgoingData → Result Sending ClientFault
lifecycle_result s phase m = Ok (record { message = m; state = record s { phase = phase } })

-- ---- the table of calls: the first row that fits decides

-- The result of a call, by phase.
abbrev pub call_result_in : Phase → ClientData → Call → Result Sending ClientFault
call_result_in New s starts = lifecycle_result s Asked (initialize s.offers)
call_result_in Ready s (orders order) =
    command_result s (agreement s).kind (command_of (agreement s).encoding order)
call_result_in Ready s shuts_down = lifecycle_result s Closing shutdown
call_result_in Closed s exits = lifecycle_result s Done exit
call_result_in phase s call = Err (WrongPhase phase)

-- What a call sends and the client's new state, or why it is refused. A refused call changes
-- nothing.
abbrev pub call_result : ClientData → Call → Result Sending ClientFault
call_result s call = call_result_in s.phase s call

-- ---- what the server sends

-- What a client does with a body: it sends a message, notes a response, ignores a notification, or
-- can't continue with this server.
pub data DeliveredData (Reply : Type 0) : Type 0 where
  sends : Reply → DeliveredData Reply
  noted ignored : DeliveredData Reply
  bad_server : Reason → DeliveredData Reply

-- The result of a delivery, and the client's new state.
pub record Delivery : Type 0 where
  pub delivered : DeliveredData OutgoingData
  pub state : ClientData

-- A delivery that changes nothing.
abbrev pub same_state : ClientData → DeliveredData OutgoingData → Delivery
same_state s delivered = record { delivered = delivered; state = s }

-- A delivery that leads to another phase.
abbrev pub to_phase : ClientData → Phase → DeliveredData OutgoingData → Delivery
to_phase s phase delivered = record { delivered = delivered; state = record s { phase = phase } }

-- The session can't continue; the documents stay.
abbrev pub failure : ClientData → Reason → Delivery
failure s reason = to_phase s (Failed reason) (bad_server reason)

-- The session begins (Initialized Notification).
abbrev pub begin_in : ClientData → Encoding → SyncKind → Delivery
begin_in s encoding kind =
    let begun = record s { agreed = Some (record { encoding = encoding; kind = kind }) } in
    to_phase begun Ready (sends initialized)

-- The session begins, if the server wants to be notified of open documents and of changes
-- (TextDocumentSyncOptions), and announces an encoding that was offered (PositionEncodingKind).
abbrev pub begin_if_agreed : ClientData → Bool → SyncKind → Option Encoding → Delivery
begin_if_agreed s false kind encoding = failure s NoSync
begin_if_agreed s true Off encoding = failure s NoSync
begin_if_agreed s true kind None = failure s BadEncoding
begin_if_agreed s true kind (Some encoding) =
    if is_offered s.offers encoding then begin_in s encoding kind else failure s BadEncoding

-- The session begins, if the result of `initialize` can be read, and both ends agree.
abbrev pub begin_as_announced : ClientData → Option Announced → Delivery
begin_as_announced s None = failure s NotAnAnswer
begin_as_announced s (Some announced) =
    begin_if_agreed s announced.open_close announced.kind announced.encoding

-- Whether a body is the response that is awaited. `initialize` has the id 1 and `shutdown` the
-- id 2; the client sends no other request.
abbrev pub is_awaited : Phase → Reading → Bool
is_awaited Asked (message (response (Some (whole (pos id))) outcome)) = id == 1
is_awaited Closing (message (response (Some (whole (pos id))) outcome)) = id == 2
is_awaited phase body = false

-- ---- the table of deliveries: the first row that fits decides

-- What a client that listens does with a body, by its phase and by whether the body is the response
-- that is awaited.
abbrev pub delivery_in : Phase → Bool → ClientData → Reading → Delivery
-- Notifications are ignored, and no request is known.
delivery_in phase awaited s (message (notification method params)) = same_state s ignored
delivery_in phase awaited s (message (request id method params)) =
    same_state s (sends (error_reply (Some id) MethodNotFound))
-- The response to `initialize` (Initialize Request).
delivery_in Asked true s (message (response id failed)) = failure s ErrorAnswer
delivery_in Asked true s (message (response id (given result))) =
    begin_as_announced s (announced_of result)
-- The response to `shutdown` (Shutdown Request).
delivery_in Closing true s (message (response id failed)) = failure s ErrorAnswer
delivery_in Closing true s (message (response id (given result))) = to_phase s Closed noted
-- Nobody waits for another response; and no other body is a message.
delivery_in phase awaited s body = failure s NotAnAnswer

-- What a client that listens does with a body.
abbrev pub delivery_of : ClientData → Reading → Delivery
delivery_of s body = delivery_in s.phase (is_awaited s.phase body) s body

-- A client listens from `initialize` to `exit`.
abbrev pub is_listening : Phase → Bool
is_listening New = false
is_listening Done = false
is_listening (Failed reason) = false
is_listening phase = true

-- What a client does with a body that the server sent, and its new state, or why the body is
-- refused.
abbrev pub delivery_result : ClientData → Reading → Result Delivery ClientFault
delivery_result s body =
    if is_listening s.phase then Ok (delivery_of s body) else Err (WrongPhase s.phase)
