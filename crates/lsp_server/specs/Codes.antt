-- The codes of the server's faults and refusals, as docs/PROTOCOL.md lists them.
use Rattle.lsp_server.specs.Prelude.{ℕ, List, codes, fault_code, Refusal, Store}
use Rattle.lsp_server.specs.declared.answer.Refusal.TheVariants.{InvalidParams}
use Rattle.lsp_server.specs.declared.answer.ServerFault.{ServerFault}
use Rattle.lsp_server.specs.declared.answer.ServerFault.TheVariants.{AlreadyEnded, NoMemory}

-- The code of a refusal.
abbrev pub server_refusal_code : Refusal → List ℕ
server_refusal_code InvalidParams = codes "M4"
server_refusal_code (Store fault) = fault_code fault

-- The code of a fault.
abbrev pub server_fault_code : ServerFault → List ℕ
server_fault_code AlreadyEnded = codes "V1"
server_fault_code NoMemory = codes "V2"
