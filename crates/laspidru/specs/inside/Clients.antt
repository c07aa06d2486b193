-- The calls of a client, and of a refused call its code and what is written of it.
use Rattle.laspidru.specs.Prelude.{ℕ, Call, starts, shuts_down, closes, edits, orders, ClientFault, OUT_OF_MEMORY, WRONG_PHASE, FaultAt}
use Rattle.lsp_client.specs.Step.{exits}
use Rattle.lsp_client.specs.declared.fault.ClientFault.TheVariants as client
use Rattle.laspidru.specs.declared.client.call.Call.{Call as Made}
use Rattle.laspidru.specs.declared.client.call.Call.TheVariants.{Start, Shutdown, Exit, Open, Edit, Close}
use Rattle.laspidru.specs.Clients.{IsStoreReport, open_asked}
use Rattle.laspidru.specs.Servers.{store_code}
use Rattle.laspidru.specs.inside.Passed.{changes_in}

-- A call as the client has it.
abbrev pub call_made : Made → Call
call_made Start = starts
call_made Shutdown = shuts_down
call_made Exit = exits
call_made (Open uri language version text) =
    orders (open_asked uri.now language.now version text.now)
call_made (Edit uri version passed) = orders (edits uri.now version (changes_in passed))
call_made (Close uri) = orders (closes uri.now)

-- The code of a refused call.
abbrev pub call_code : ClientFault → ℕ
call_code (client.WrongPhase phase) = WRONG_PHASE
call_code (client.Store fault) = store_code fault
call_code client.NoMemory = OUT_OF_MEMORY

-- A faulty change is written, with the end of its range.
abbrev pub IsCallReport : ClientFault → FaultAt → Type 0
IsCallReport (client.Store fault) out = IsStoreReport fault out
IsCallReport other out = Unit {0}
