-- How the calls of this crate report a fault.
use Rattle.std.specs.Prelude.{◌≡◌, ◌⊎◌}
use Rattle.lsp_edit.specs.Prelude.{ℕ, List, Option, Some, None, Result, Ok, Err, codes, EditFault}
use Rattle.lsp_text.specs.Text.{place_of}
use Rattle.lsp_edit.specs.declared.fault.EditFault.TheVariants.{InsideCharacter, ReversedRange, NoMemory}
use Rattle.lsp_edit.specs.declared.fault.Side.TheVariants.{Start, Stop}
use Rattle.lsp_edit.specs.Items.{Item}
use Rattle.lsp_edit.specs.Batch.{Fault, InsideStart, InsideStop, Reversed}

-- The fault of a change, with the change's number.
abbrev pub fault_at : ℕ → Fault → EditFault
fault_at number InsideStart = InsideCharacter number Start
fault_at number InsideStop = InsideCharacter number Stop
fault_at number Reversed = ReversedRange number

-- The code of a fault, as docs/PROTOCOL.md lists them; none for out of memory.
abbrev pub edit_code : EditFault → Option (List ℕ)
edit_code (InsideCharacter change side) = Some (codes "E1")
edit_code (ReversedRange change) = Some (codes "E2")
edit_code NoMemory = None

-- The fault is out of memory, or why the change of this number has no result.
abbrev pub IsFaultOfChange : ℕ → Result (List Item) Fault → EditFault → Type 0
IsFaultOfChange number changed fault = (fault ≡ NoMemory)
    ⊎ ((why : Fault) × (changed ≡ Err why) × (fault ≡ fault_at number why))

-- The fault is out of memory, or the first change of a batch that has no result, and why.
abbrev pub IsFaultOfChanges : Result (List Item) (ℕ × Fault) → EditFault → Type 0
IsFaultOfChanges changed fault = (fault ≡ NoMemory)
    ⊎ ((number : ℕ) × (why : Fault) × (changed ≡ Err (number, why)) × (fault ≡ fault_at number why))

-- The byte offsets of a range's two ends, or the fault of a change.
abbrev pub places_at : ℕ → List ℕ → Result (ℕ × ℕ) Fault → Result (ℕ × ℕ) EditFault
places_at number text (Ok ends) = Ok (place_of text ends.0, place_of text ends.1)
places_at number text (Err why) = Err (fault_at number why)
