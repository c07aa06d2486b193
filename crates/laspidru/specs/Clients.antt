-- A client that C asks for, the calls on it, and what C gets of them.
use Rattle.std.specs.Prelude.{◌≡◌, ◌⊎◌}
use Rattle.laspidru.specs.Prelude.{ℕ, ℤ, false, List, [], length, Option, Some, Result, Ok, Err, frame, body_of, StoreFault, ClientFault, Call, ClientData, call_result, opens, edits, Order, Sending, DeliveredData, sends, noted, bad_server, new_client, Answer, BAD_ENCODING, BAD_SERVER, ERROR_ANSWER, IGNORED, NO_SYNC, NOT_AN_ANSWER, NOTED, OK, OTHER_KIND, OUT_OF_MEMORY, REPLIED, WRONG_PHASE, Object, End, Party, Server, Client, FaultAt, IsRefusedOr, and_then, EndData, Stream, stream_of}
use Rattle.lsp_edit.specs.declared.fault.EditFault.TheVariants as edit
use Rattle.lsp_store.specs.declared.fault.StoreFault.TheVariants as faults
use Rattle.lsp_client.specs.declared.fault.ClientFault.TheVariants as client
use Rattle.lsp_client.specs.declared.phase.Phase.{Phase}
use Rattle.lsp_client.specs.declared.phase.Phase.TheVariants.{New, Asked, Ready, Closing, Closed, Done, Failed}
use Rattle.lsp_client.specs.declared.phase.Reason.{Reason}
use Rattle.lsp_client.specs.declared.phase.Reason.TheVariants.{NotAnAnswer, ErrorAnswer, NoSync, BadEncoding}
use Rattle.lsp_client.specs.Step.{ignored}
use Rattle.laspidru.specs.declared.reports.ClientSettings.{ClientSettings}
use Rattle.laspidru.specs.declared.structs.Edit.{Edit}
use Rattle.laspidru.specs.Objects.{uri_asked}
use Rattle.laspidru.specs.Servers.{limits_asked, plain_out, store_code}
use Rattle.laspidru.specs.Edits.{edits_of, is_end}

-- ---- how a client is set up

-- A client at the start of a session, if each limit is in its range. It has sent nothing.
abbrev pub client_asked : ClientSettings → Result EndData ℕ
client_asked settings =
    and_then (limits_asked settings.max_body settings.max_text settings.max_docs
    settings.max_changes settings.lenient) (λ limits. Ok (record {
      party = Client (new_client limits (record { utf8 = settings.utf8; utf32 = settings.utf32 }));
      frame = [];
      stream = stream_of limits;
    }))

-- The client of an end, and the end's stream.
abbrev pub client_in : Party → Stream → Result (ClientData × Stream) ℕ
client_in (Client client) stream = Ok (client, stream)
client_in (Server server) stream = Err OTHER_KIND

-- The client of an object, and its stream.
abbrev pub as_client : Object → Result (ClientData × Stream) ℕ
as_client (End held) = client_in held.party held.stream
as_client other = Err OTHER_KIND

-- ---- calls

-- The order that opens a document.
abbrev pub open_asked : List ℕ → List ℕ → ℤ → List ℕ → Order
open_asked uri language version text =
    opens (record { uri = uri; language = language; version = version; text = text })

-- The order that changes a document by the edits that C passes.
abbrev pub edit_asked : List ℕ → ℤ → List Edit → List ℕ → Order
edit_asked uri version batch texts = edits uri version (edits_of batch texts)

-- A faulty change is written, with the end of its range.
abbrev pub IsStoreReport : StoreFault → FaultAt → Type 0
IsStoreReport (faults.Edit (edit.InsideCharacter change side)) out =
    out ≡ record { change = change; at_end = is_end side }
IsStoreReport (faults.Edit (edit.ReversedRange change)) out =
    out ≡ record { change = change; at_end = false }
IsStoreReport other out = Unit {0}

-- A call is refused with this code. One in a wrong phase takes no memory.
abbrev pub IsRefusedCall : ClientFault → ℕ → Type 0
IsRefusedCall (client.WrongPhase phase) code = code ≡ WRONG_PHASE
IsRefusedCall (client.Store fault) code = (code ≡ OUT_OF_MEMORY) ⊎ (code ≡ store_code fault)
IsRefusedCall client.NoMemory code = code ≡ OUT_OF_MEMORY

-- A call is accepted: the client is in its new state, and has the frame to send.
pub record IsAccepted (stream : Stream) (sending : Sending) (code : ℕ) (stored : Option Object)
    (len : ℕ) : Type 0 where
  pub done : code ≡ OK
  pub client : stored ≡ Some (End (record {
    party = Client sending.state;
    frame = frame (body_of sending.message);
    stream = stream;
  }))
  pub frame_len : len ≡ length (frame (body_of sending.message))

-- A call is accepted or out of memory, or refused.
abbrev pub IsCalled : Stream → Result Sending ClientFault → ℕ → Option Object → ℕ → Type 0
IsCalled stream (Ok sending) code stored len =
    (code ≡ OUT_OF_MEMORY) ⊎ IsAccepted stream sending code stored len
IsCalled stream (Err refusal) code stored len = IsRefusedCall refusal code

-- A call of this client, which may be the code of its refusal.
abbrev pub IsCallOn : Result (ClientData × Stream) ℕ → Call → ℕ → Option Object → ℕ → Type 0
IsCallOn client call code stored len = IsRefusedOr client code (λ it.
    IsCalled it.1 (call_result it.0 call) code stored len)

-- What a refusal writes of a faulty change.
abbrev pub IsWritten : Result Sending ClientFault → ℕ → FaultAt → Type 0
IsWritten (Err (client.Store fault)) code out =
    (code ≡ OUT_OF_MEMORY) ⊎ IsStoreReport fault out
IsWritten result code out = Unit {0}

-- The order that opens a document, if each text is UTF-8.
abbrev pub opening_asked : List ℕ → List ℕ → ℤ → List ℕ → Result Order ℕ
opening_asked uri language version text =
    and_then (uri_asked uri) (λ uri. and_then (uri_asked language) (λ language.
    and_then (uri_asked text) (λ text. Ok (open_asked uri language version text))))

-- ---- deliveries

-- The reason why a session can't continue, as a code.
abbrev pub reason_number : Reason → ℕ
reason_number NotAnAnswer = NOT_AN_ANSWER
reason_number ErrorAnswer = ERROR_ANSWER
reason_number NoSync = NO_SYNC
reason_number BadEncoding = BAD_ENCODING

-- The result of a delivery as C gets it.
abbrev pub delivered_out : DeliveredData (List ℕ) → Answer
delivered_out (sends frame) = record (plain_out REPLIED) { reply_len = length frame }
delivered_out noted = plain_out NOTED
delivered_out ignored = plain_out IGNORED
delivered_out (bad_server reason)
    = record (plain_out BAD_SERVER) { reason = reason_number reason }

-- The frame that a delivery sends; no bytes if it sends none.
abbrev pub sent_frame : DeliveredData (List ℕ) → List ℕ
sent_frame (sends frame) = frame
sent_frame other = []

-- ---- its phase

-- The number of a phase, and why the session failed; 0 if it didn't.
abbrev pub phase_numbers : Phase → ℕ × ℕ
phase_numbers New = (0, 0)
phase_numbers Asked = (1, 0)
phase_numbers Ready = (2, 0)
phase_numbers Closing = (3, 0)
phase_numbers Closed = (4, 0)
phase_numbers Done = (5, 0)
phase_numbers (Failed reason) = (6, reason_number reason)
