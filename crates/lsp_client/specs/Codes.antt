-- The codes of the client's faults, as docs/PROTOCOL.md lists them.
use Rattle.lsp_client.specs.Prelude.{ℕ, List, codes, fault_code, ClientFault, NoMemory, Store, WrongPhase}

-- The code of a fault. C2 has the code of the store's fault.
abbrev pub client_fault_code : ClientFault → List ℕ
client_fault_code (WrongPhase phase) = codes "C1"
client_fault_code (Store fault) = fault_code fault
client_fault_code NoMemory = codes "C3"
