-- How the calls of this crate report why they refuse.
use Rattle.std.specs.Prelude.{◌≡◌, ◌⊎◌}
use Rattle.lsp_store.specs.Prelude.{ℕ, List, Option, Some, codes, option_map, StoreFault}
use Rattle.lsp_frame.specs.declared.written.EncodeFault.{EncodeFault}
use Rattle.lsp_frame.specs.declared.written.EncodeFault.TheVariants as encode
use Rattle.lsp_edit.specs.declared.fault.EditFault.TheVariants.{InsideCharacter, ReversedRange}
use Rattle.lsp_edit.specs.declared.indexed.fault.BatchFault.{BatchFault}
use Rattle.lsp_edit.specs.declared.indexed.fault.BatchFault.TheVariants as text
use Rattle.lsp_edit.specs.Faults.{fault_at}
use Rattle.lsp_store.specs.declared.fault.StoreFault.TheVariants.{AlreadyOpen, TooManyDocuments, TextTooLong, NotOpen, StaleVersion, TooManyChanges, Edit, BodyTooLong, NoMemory}
use Rattle.lsp_store.specs.Table.{Refusal, already_open, too_many_documents, text_too_long, not_open, too_many_changes, stale_version, edit, body_too_long}

-- The fault of a refusal.
abbrev pub refusal_fault : Refusal → StoreFault
refusal_fault already_open = AlreadyOpen
refusal_fault too_many_documents = TooManyDocuments
refusal_fault text_too_long = TextTooLong
refusal_fault not_open = NotOpen
refusal_fault too_many_changes = TooManyChanges
refusal_fault (stale_version held) = StaleVersion held
refusal_fault (edit number why) = Edit (fault_at number why)
refusal_fault (body_too_long len) = BodyTooLong len

-- The code of a fault, as docs/PROTOCOL.md lists them. A change without a result has the code of its
-- cause, E1 or E2, in place of S7.
abbrev pub fault_code : StoreFault → List ℕ
fault_code AlreadyOpen = codes "S1"
fault_code TooManyDocuments = codes "S2"
fault_code TextTooLong = codes "S3"
fault_code NotOpen = codes "S4"
fault_code (StaleVersion held) = codes "S5"
fault_code TooManyChanges = codes "S6"
fault_code (Edit (InsideCharacter change side)) = codes "E1"
fault_code (Edit (ReversedRange change)) = codes "E2"
fault_code (BodyTooLong len) = codes "S8"
fault_code fault = codes "S9"

-- The store's fault of a text's fault.
abbrev pub store_fault_of : BatchFault → StoreFault
store_fault_of (text.Edit fault) = Edit fault
store_fault_of text.TooLong = TextTooLong
store_fault_of text.NoMemory = NoMemory

-- The store's fault of a fault of writing a frame.
abbrev pub store_fault_of_encode : EncodeFault → StoreFault
store_fault_of_encode (encode.BodyTooLong len) = BodyTooLong len
store_fault_of_encode encode.NoMemory = NoMemory

-- A fault is out of memory, or that of the refusal.
abbrev pub IsRefusal : Option Refusal → StoreFault → Type 0
IsRefusal refusal fault = (fault ≡ NoMemory) ⊎ (option_map refusal_fault refusal ≡ Some fault)
