-- A text with its lines, under batches of changes.
use Rattle.std.specs.Prelude.{◌≡◌, ◌≤◌, ◌⊎◌, if◌then◌else◌, ◌∷◌}
use Rattle.lsp_edit.specs.Prelude.{ℕ, nat_lt, List, [], length, encode_utf8_all, IsOk, Option, Some, Result, Ok, Err, IsUtf8, chars, Range, EditFault}
use Rattle.lsp_edit.specs.declared.fault.EditFault.TheVariants as edit
use Rattle.lsp_edit.specs.declared.indexed.fault.BatchFault.{BatchFault}
use Rattle.lsp_edit.specs.declared.indexed.fault.BatchFault.TheVariants.{Edit as EditOf, TooLong, NoMemory}
use Rattle.lsp_edit.specs.Items.{Item, text_of}
use Rattle.lsp_edit.specs.Batch.{ContentChange, Fault, meaning}
use Rattle.lsp_edit.specs.Canonical.{canonical}
use Rattle.lsp_edit.specs.Faults.{fault_at}
use Rattle.lsp_edit.specs.laws.Batches.{IsCanonical}

-- The bytes of the text of items, over a text of these bytes.
abbrev pub bytes_left : List ℕ → List Item → List ℕ
bytes_left before items = encode_utf8_all (text_of (chars before) items)

-- The bytes that a meaning leaves of a text, if they are at most `max_len`; else why there are
-- none.
abbrev pub text_within : ℕ → List ℕ → Result (List Item) (ℕ × Fault) → Result (List ℕ) BatchFault
text_within max_len before (Err fault) = Err (EditOf (fault_at fault.0 fault.1))
text_within max_len before (Ok items) = if nat_lt max_len (length (bytes_left before items)) then
    Err TooLong else Ok (bytes_left before items)

-- Out of memory, or why a batch leaves no text of at most `max_len` bytes.
abbrev pub IsBatchFaultOf : (ℕ → ℕ) → ℕ → List ℕ → List ContentChange → BatchFault → Type 0
IsBatchFaultOf units max_len before batch fault = (fault ≡ NoMemory)
    ⊎ (text_within max_len before (meaning units (chars before) batch) ≡ Err fault)

-- A batch of one change, by the bytes of its text.
abbrev pub one_change : Option Range → List ℕ → List ContentChange
one_change range new = record { range = range; text = chars new } ∷ []

-- A batch of one change with a range.
abbrev pub alone : Range → List ℕ → List ContentChange
alone range new = one_change (Some range) new

-- A batch of one change may take memory only where it leaves a text of at most `max_len` bytes.
abbrev pub BatchMayAllocate : (ℕ → ℕ) → ℕ → List ℕ → List ContentChange → Type 0
BatchMayAllocate units max_len before batch = (range : Option Range) (text : List ℕ)
    → batch ≡ one_change range text
    → IsOk (text_within max_len before (meaning units (chars before) batch))

-- How a fault of a change is reported.
abbrev pub batch_fault_of : EditFault → BatchFault
batch_fault_of (edit.InsideCharacter change side) = EditOf (edit.InsideCharacter change side)
batch_fault_of (edit.ReversedRange change) = EditOf (edit.ReversedRange change)
batch_fault_of edit.NoMemory = NoMemory

-- `answered` is the canonical batch of what `batch` means on the text with these bytes, and at most
-- `max_len` bytes are left. `law` is true of every batch on that text.
pub record IsCanonicalBatch (units : ℕ → ℕ) (max_len : ℕ) (before : List ℕ)
    (batch answered : List ContentChange) : Type 0 where
  pub utf8 : IsUtf8 before
  pub items : List Item
  pub means : meaning units (chars before) batch ≡ Ok items
  pub within : length (bytes_left before items) ≤ max_len
  pub is : answered ≡ canonical units (chars before) items
  pub law : (other : List ContentChange) (others : List Item) →
      meaning units (chars before) other ≡ Ok others → IsCanonical units (chars before) other others
