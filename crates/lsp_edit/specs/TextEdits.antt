-- What a list of text edits means (LSP 3.17, TextEdit[]): all ranges count in the old text and never
-- overlap. Several edits may start at one index: any number of insertions, in the order of the list,
-- and after them at most one that removes or replaces.
use Rattle.std.specs.Prelude.{◌≡◌, ◌⊎◌, ◌<◌, ◌≤◌, ◌&&◌, if◌then◌else◌, ◌==◌, ◌∷◌, ◌++◌}
use Rattle.lsp_edit.specs.Prelude.{ℕ, suc, Bool, nat_le, nat_lt, List, [], length, map, filter, flat_map, Contains, string_bytes, Result, Ok, Err, list_any, chars, numbers_from, EditFault, TextEdit, TextEditFault, Overlap}
use Rattle.lsp_edit.specs.declared.fault.EditFault.TheVariants as edit
use Rattle.lsp_edit.specs.declared.text_edits.TextEditFault.TheVariants.{InsideCharacter, ReversedRange, NoMemory}
use Rattle.lsp_edit.specs.Items.{Item, Old, New}
use Rattle.lsp_edit.specs.Batch.{ContentChange, Fault, meaning, ends_of}
use Rattle.lsp_edit.specs.Canonical.{canonical}
use Rattle.lsp_edit.specs.Faults.{fault_at}

-- An edit of a list by indexes of the old text: its number in the list, the two ends of its range,
-- and the characters that replace those between them.
pub record LocatedEdit : Type 0 where
  pub number : ℕ
  pub start : ℕ
  pub stop : ℕ
  pub text : List ℕ

-- The edit with this number and text, before the others. If its range has a fault, that fault; else
-- the fault of the others, if they have one.
abbrev pub located_first : ℕ → List ℕ → Result (ℕ × ℕ) Fault →
    Result (List LocatedEdit) (ℕ × Fault) → Result (List LocatedEdit) (ℕ × Fault)
located_first number text (Err why) others = Err (number, why)
located_first number text (Ok ends) (Err fault) = Err fault
located_first number text (Ok ends) (Ok others)
    = Ok (record { number = number; start = ends.0; stop = ends.1; text = text } ∷ others)

-- These edits by indexes of the old text, numbered from `number`; or the first one whose range has
-- a fault, and why.
abbrev pub located : (ℕ → ℕ) → List ℕ → ℕ → List TextEdit →
    Result (List LocatedEdit) (ℕ × Fault)
located units old number [] = Ok []
located units old number (edit ∷ edits) =
    located_first number (chars (string_bytes edit.new_text)) (ends_of units old edit.range)
    (located units old (suc number) edits)

-- The new characters at an index: the texts of all edits that start there, in the order of the
-- list.
abbrev pub new_at : List LocatedEdit → ℕ → List ℕ
new_at edits index = flat_map (λ edit. edit.text) (filter (λ edit. edit.start == index) edits)

-- Whether an edit takes out the old character at an index: it starts there or before, and stops
-- after it.
abbrev pub is_taken_out : List LocatedEdit → ℕ → Bool
is_taken_out edits index =
    list_any (λ edit. nat_le edit.start index && nat_lt index edit.stop) edits

-- What edits leave at an index: the new characters there, and after them the old one, unless it is
-- taken out.
abbrev pub left_at : List LocatedEdit → ℕ → List Item
left_at edits index = map New (new_at edits index)
    ++ (if is_taken_out edits index then [] else Old index ∷ [])

-- What edits leave of an old text of `len` characters: what they leave at each index, and the new
-- characters at the end.
abbrev pub items_left : List LocatedEdit → ℕ → List Item
items_left edits len
    = flat_map (left_at edits) (numbers_from 0 len) ++ map New (new_at edits len)

-- The first edit comes before the second: it starts at a lower index, or at the same index and is
-- earlier in the list.
abbrev pub ComesBefore : LocatedEdit → LocatedEdit → Type 0
ComesBefore first second = (first.start < second.start)
    ⊎ ((first.start ≡ second.start) × (first.number < second.number))

-- No edits overlap: where one comes before another, it stops at the start of the other or before.
abbrev pub NoneOverlap : List LocatedEdit → Type 0
NoneOverlap edits = (first second : LocatedEdit) → Contains edits first → Contains edits second
    → ComesBefore first second → first.stop ≤ second.start

-- `answered` is the canonical batch of what the edits leave, and as a batch it means the same. Each
-- range's ends denote, and are in order; none overlap.
pub record IsBatchOfEdits (units : ℕ → ℕ) (before : List ℕ) (edits : List TextEdit)
    (answered : List ContentChange) : Type 0 where
  pub all : List LocatedEdit
  pub at : located units (chars before) 0 edits ≡ Ok all
  pub apart : NoneOverlap all
  pub is : answered
      ≡ canonical units (chars before) (items_left all (length (chars before)))
  pub means : meaning units (chars before) answered
      ≡ Ok (items_left all (length (chars before)))

-- How a fault of a range is reported.
abbrev pub fault_of : EditFault → TextEditFault
fault_of (edit.InsideCharacter number side) = InsideCharacter number side
fault_of (edit.ReversedRange number) = ReversedRange number
fault_of edit.NoMemory = NoMemory

-- The first edit whose range has a fault, with its number, and why.
pub record HasRangeFault (units : ℕ → ℕ) (old : List ℕ) (edits : List TextEdit)
    (fault : TextEditFault) : Type 0 where
  pub number : ℕ
  pub why : Fault
  pub at : located units old 0 edits ≡ Err (number, why)
  pub error : fault ≡ fault_of (fault_at number why)

-- Two edits overlap: the second comes after the first, with no edit between them, and starts before
-- the first stops.
pub record EditsOverlap (units : ℕ → ℕ) (old : List ℕ) (edits : List TextEdit)
    (fault : TextEditFault) : Type 0 where
  pub all : List LocatedEdit
  pub at : located units old 0 edits ≡ Ok all
  pub first : LocatedEdit
  pub second : LocatedEdit
  pub has_first : Contains all first
  pub has_second : Contains all second
  pub order : ComesBefore first second
  pub none_between : (other : LocatedEdit) → Contains all other → ComesBefore first other →
      ComesBefore other second → ⊥
  pub over : second.start < first.stop
  pub error : fault ≡ Overlap first.number second.number

-- Out of memory, or why edits have no meaning: a range is faulty, or two edits overlap.
abbrev pub IsEditsFault : (ℕ → ℕ) → List ℕ → List TextEdit → TextEditFault → Type 0
IsEditsFault units old edits fault =
    (fault ≡ NoMemory) ⊎ HasRangeFault units old edits fault ⊎ EditsOverlap units old edits fault
