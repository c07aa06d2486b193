-- The results of a client's calls, by the tables of its steps.
use Rattle.std.specs.Prelude.{◌≡◌, ◌⊎◌}
use Rattle.lsp_client.specs.Prelude.{ℕ, ℤ, List, map, String, string_bytes, true, None, Result, Ok, Err, IsUtf8, OutgoingData, body_of, ClientFault, Store, NoMemory, open_refusal, close_refusal, Ready}
use Rattle.std.specs.declared.alloc.Global.{Global}
use Rattle.lsp_frame.specs.Frame.{frame}
use Rattle.lsp_edit.specs.declared.change.Change.{Change}
use Rattle.lsp_edit.specs.Edited.{content_change}
use Rattle.lsp_store.specs.declared.fault.StoreFault as documents_fault
use Rattle.lsp_store.specs.declared.fault.StoreFault.TheVariants as faults
use Rattle.lsp_client.specs.declared.delivered.Delivered.{Delivered}
use Rattle.lsp_client.specs.declared.delivered.Delivered.TheVariants.{Send, Noted, Ignored, BadServer}
use Rattle.lsp_store.specs.Opened.{ChangeMayAllocate}
use Rattle.lsp_client.specs.Step.{ClientData, Sending, Order, opens, edits, closes, Delivery, DeliveredData, is_listening, sends, noted, ignored, bad_server}

-- ---- what a call asks

-- The order of a call of `open`.
abbrev pub open_order : String Global → String Global → ℤ → String Global → Order
open_order uri language version text =
    opens (record {
      uri = string_bytes uri;
      language = string_bytes language;
      version = version;
      text = string_bytes text;
    })

-- The order of a call of `edit`.
abbrev pub edit_order : List ℕ → ℤ → List Change → Order
edit_order uri version changes = edits uri version (map content_change changes)

-- ---- what is refused

-- The client's fault of a fault of the store.
abbrev pub client_fault : documents_fault.StoreFault → ClientFault
client_fault faults.NoMemory = NoMemory
client_fault fault = Store fault

-- This is the fault of a refused step, or the client is out of memory. A call in a wrong phase
-- takes no memory.
abbrev pub IsFaultOf : {A : Type 0} → Result A ClientFault → ClientFault → Type 0
IsFaultOf (Ok a) fault = fault ≡ NoMemory
IsFaultOf (Err (Store why)) fault = (fault ≡ NoMemory) ⊎ (fault ≡ Store why)
IsFaultOf (Err why) fault = fault ≡ why

-- ---- what is accepted

-- A call is accepted: this frame is to be sent, and this is the client's new state.
abbrev pub IsSent : Result Sending ClientFault → List ℕ → ClientData → Type 0
IsSent (Ok sending) bytes new =
    (bytes ≡ frame (body_of sending.message)) × (new ≡ sending.state)
IsSent (Err refusal) bytes new = ⊥

-- The result of a delivery, with what is to be sent as a frame.
abbrev pub delivered_view : Delivered → DeliveredData (List ℕ)
delivered_view (Send frame) = sends frame.items
delivered_view Noted = noted
delivered_view Ignored = ignored
delivered_view (BadServer reason) = bad_server reason

-- The result of a delivery, with its message as a frame.
abbrev pub as_frame : DeliveredData OutgoingData → DeliveredData (List ℕ)
as_frame (sends m) = sends (frame (body_of m))
as_frame noted = noted
as_frame ignored = ignored
as_frame (bad_server reason) = bad_server reason

-- A body is accepted: this is the result, and this is the client's new state.
abbrev pub IsDelivered : Result Delivery ClientFault → DeliveredData (List ℕ) → ClientData → Type 0
IsDelivered (Ok delivery) delivered new =
    (delivered ≡ as_frame delivery.delivered) × (new ≡ delivery.state)
IsDelivered (Err refusal) delivered new = ⊥

-- ---- memory

-- Only what a batch means, or the length of the message, can still refuse an order.
abbrev pub IsLeftToMessage : ClientData → Order → Type 0
IsLeftToMessage s (opens entry) = open_refusal s.limits s.table entry ≡ None
IsLeftToMessage s (edits uri version batch) =
    ChangeMayAllocate (record { limits = s.limits; table = s.table }) uri version batch
IsLeftToMessage s (closes uri) = close_refusal s.table uri ≡ None

-- An order may take memory only in phase Ready, and only where it is left to its message.
abbrev pub OrderMayAllocate : ClientData → Order → Type 0
OrderMayAllocate s order = (s.phase ≡ Ready) × IsLeftToMessage s order

-- A delivery may take memory only while the client listens, and only for a body that is UTF-8.
abbrev pub DeliveryMayAllocate : ClientData → List ℕ → Type 0
DeliveryMayAllocate s body = (is_listening s.phase ≡ true) × IsUtf8 body
