-- What an order sends, and why it is refused, as the store reports it.
use Rattle.lsp_client.specs.Prelude.{ℕ, List, Option, None, Result, chars, LimitsData, ContentChange, SyncKind, DocumentItem, IsRefusal, body_refusal, else_refused, Command, Refusal, command_refusal, ClientFault}
use Rattle.lsp_store.specs.declared.fault.StoreFault.{StoreFault}
use Rattle.lsp_client.specs.Step.{ClientData, Order, Sending, agreement, command_of, command_result, sent_body}

-- Why a command is refused.
abbrev pub order_refusal : LimitsData → SyncKind → List DocumentItem → Command → Option Refusal
order_refusal limits kind table command =
    else_refused
    (command_refusal limits table command)
    (body_refusal limits (sent_body kind table command))

-- What an order sends and the client's new state, or why it is refused.
abbrev pub order_result : ClientData → Order → Result Sending ClientFault
order_result s order =
    command_result s (agreement s).kind (command_of (agreement s).encoding order)

-- This is the fault of a refused order, or the client is out of memory.
abbrev pub IsOrderFault : ClientData → Order → StoreFault → Type 0
IsOrderFault s order fault =
    let agreed = agreement s in
    IsRefusal
    (order_refusal s.limits agreed.kind s.table (command_of agreed.encoding order))
    fault

-- The change that replaces the whole text by a text of these bytes.
abbrev pub whole_change : List ℕ → ContentChange
whole_change text = record { range = None; text = chars text }
