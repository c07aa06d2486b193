-- The edits that C passes, and their texts one after another in one array of bytes: the changes of a
-- batch, or text edits (LSP 3.17, TextEdit[]), of which all count in the text as it is.
use Rattle.std.specs.Prelude.{◌≡◌, ◌≢◌, ◌<◌, ◌⊎◌, ◌&&◌, if◌then◌else◌, ◌∷◌}
use Rattle.laspidru.specs.Prelude.{ℕ, nat_le, nat_lt, length, slice_get, string_bytes, string_len, sum_by, Bool, true, false, List, [], take, drop, map, Option, Some, None, Result, Ok, Err, IsOkAnd, ok_or, chars, is_utf8, Range, Encoding, units_in, Change, MAX_NEW_TEXT, MAX_OLD_TEXT, TooLong, content_change, BAD_LENGTH, INSIDE_CHARACTER, NOT_UTF8, OK, OUT_OF_MEMORY, OUT_OF_RANGE, OVERLAP, REVERSED_RANGE, TOO_LONG, Object, Document, CPosition, FaultAt, and_then, unless}
use Rattle.lsp_edit.specs.declared.fault.EditFault.TheVariants as edit
use Rattle.lsp_edit.specs.declared.fault.Side.{Side}
use Rattle.lsp_edit.specs.declared.fault.Side.TheVariants.{Start, Stop}
use Rattle.lsp_edit.specs.declared.indexed.fault.BatchFault.{BatchFault}
use Rattle.lsp_edit.specs.declared.indexed.fault.BatchFault.TheVariants.{Edit as EditOf, NoMemory}
use Rattle.lsp_edit.specs.declared.text_edits.TextEdit.{TextEdit}
use Rattle.lsp_edit.specs.declared.text_edits.TextEditFault.{TextEditFault}
use Rattle.lsp_edit.specs.declared.text_edits.TextEditFault.TheVariants as text_edit
use Rattle.lsp_edit.specs.Batch as batch
use Rattle.lsp_edit.specs.Batch.{meaning}
use Rattle.lsp_edit.specs.Canonical.{canonical}
use Rattle.lsp_edit.specs.Indexed.{text_within}
use Rattle.lsp_edit.specs.Items.{Item}
use Rattle.lsp_edit.specs.TextEdits.{IsBatchOfEdits, IsEditsFault}
use Rattle.laspidru.specs.declared.structs.Edit.{Edit}
use Rattle.laspidru.specs.declared.structs.EditsFault.{EditsFault}
use Rattle.laspidru.specs.Objects.{as_batch, encoding_at, in_handle, position_at}

-- The range of an edit, if it isn't one of the whole text.
abbrev pub range_if : Bool → CPosition → CPosition → Option Range
range_if true start end = None
range_if false start end = Some (record { start = position_at start; stop = position_at end })

-- An edit whose new text has these bytes.
abbrev pub edit_with : Edit → List ℕ → batch.ContentChange
edit_with edit own = record { range = range_if edit.is_whole edit.start edit.end; text = chars own }

-- The edits, each with its part of the texts.
abbrev pub edits_of : List Edit → List ℕ → List batch.ContentChange
edits_of [] texts = []
edits_of (edit ∷ rest) texts =
    edit_with edit (take edit.len texts) ∷ edits_of rest (drop edit.len texts)

-- The code of the first edit whose text is missing or isn't UTF-8.
abbrev pub refused_edit : List Edit → List ℕ → Option ℕ
refused_edit [] texts = None
refused_edit (edit ∷ rest) texts =
    if nat_lt (length texts) edit.len then Some BAD_LENGTH
    else if is_utf8 (take edit.len texts) then refused_edit rest (drop edit.len texts)
    else Some NOT_UTF8

-- How many bytes the texts of edits have.
abbrev pub len_of : List Edit → ℕ
len_of edits = sum_by (λ edit. edit.len) edits

-- Edits on a text, in an encoding: the changes of a batch, or text edits.
pub record Asked (A : Type 0) : Type 0 where
  pub encoding : Encoding
  pub edits : List A
  pub text : List ℕ

-- Edits that C passes, on the text of a document, if neither is too long.
abbrev pub fitting : {A : Type 0} → Encoding → List Edit → List A → Result (List ℕ) ℕ
    → Result (Asked A) ℕ
fitting encoding passed edits document = and_then document (λ text.
    if nat_le (len_of passed) MAX_NEW_TEXT && nat_le (length text) MAX_OLD_TEXT
    then Ok (record { encoding = encoding; edits = edits; text = text })
    else Err TOO_LONG)

-- The encoding of edits, if it is known and each edit has its text.
abbrev pub edits_encoding : ℕ → List Edit → List ℕ → Result Encoding ℕ
edits_encoding number edits texts =
    and_then (encoding_at number) (λ encoding. unless (refused_edit edits texts) (Ok encoding))

-- A batch as C passes it, or the code of its refusal.
abbrev pub batch_asked : ℕ → List Edit → List ℕ → Result (List ℕ) ℕ
    → Result (Asked batch.ContentChange) ℕ
batch_asked number edits texts document = and_then (edits_encoding number edits texts)
    (λ encoding. fitting encoding edits (edits_of edits texts) document)

-- The text after a batch, if that isn't too long.
abbrev pub text_left : Encoding → List ℕ → List batch.ContentChange → Result (List ℕ) BatchFault
text_left encoding text edits =
    text_within MAX_OLD_TEXT text (meaning (units_in encoding) (chars text) edits)

-- Is it the end of a range that a fault is about?
abbrev pub is_end : Side → Bool
is_end Stop = true
is_end Start = false

-- A fault is reported by its code. If it is one of a change, `out` has the number of the change and
-- the end of its range.
abbrev pub IsReport : BatchFault → ℕ → FaultAt → Type 0
IsReport (EditOf (edit.InsideCharacter change side)) code out =
    (code ≡ INSIDE_CHARACTER) × (out ≡ record { change = change; at_end = is_end side })
IsReport (EditOf (edit.ReversedRange change)) code out =
    (code ≡ REVERSED_RANGE) × (out ≡ record { change = change; at_end = false })
IsReport (EditOf edit.NoMemory) code out = code ≡ OUT_OF_MEMORY
IsReport TooLong code out = code ≡ TOO_LONG
IsReport NoMemory code out = code ≡ OUT_OF_MEMORY

-- There is a text after the batch, the call is done, and `fact` holds of the text; or the fault is
-- reported.
abbrev pub IsDoneOr : Result (List ℕ) BatchFault → ℕ → FaultAt → (List ℕ → Type 0) → Type 0
IsDoneOr (Ok text) code out fact = (code ≡ OK) × fact text
IsDoneOr (Err fault) code out fact = IsReport fault code out

-- The handle has the text after the batch, or the fault is reported.
abbrev pub IsChanged : Asked batch.ContentChange → ℕ → Option Object → FaultAt → Type 0
IsChanged asked code stored out = IsDoneOr (text_left asked.encoding asked.text asked.edits) code out
    (λ text. stored ≡ Some (Document text))

-- These changes are the canonical batch of this batch. What holds of every canonical batch is a law
-- of `batch_laws` of `lsp_edit`.
pub record IsBatchOf (asked : Asked batch.ContentChange) (changes : List Change) : Type 0 where
  pub items : List Item
  pub means : meaning (units_in asked.encoding) (chars asked.text) asked.edits ≡ Ok items
  pub is : map content_change changes ≡ canonical (units_in asked.encoding) (chars asked.text) items

-- The handle has the canonical batch, or the fault is reported.
abbrev pub LeavesCanonical : Asked batch.ContentChange → ℕ → Option Object → FaultAt → Type 0
LeavesCanonical asked code stored out =
    IsDoneOr (text_left asked.encoding asked.text asked.edits) code out
    (λ text. IsOkAnd (in_handle as_batch stored) (IsBatchOf asked))

-- A change of a batch, by its number.
abbrev pub change_asked : ℕ → Result (List Change) ℕ → Result Change ℕ
change_asked index batch = and_then batch (λ changes. ok_or (slice_get changes index) OUT_OF_RANGE)

-- The edit is this change, with the length of its text.
pub record IsEdit (edit : Edit) (change : Change) : Type 0 where
  pub len : edit.len ≡ string_len change.text
  pub range : range_if edit.is_whole edit.start edit.end ≡ change.range

-- ---- text edits

-- The bytes that take a range's place.
pub record Replacement : Type 0 where
  pub range : Range
  pub text : List ℕ

-- A range; that of the whole text ends after its last line.
abbrev pub range_or_whole : Option Range → Range
range_or_whole (Some range) = range
range_or_whole None = record {
  start = record { line = 0; character = 0 };
  stop = record { line = 4294967295; character = 4294967295 };
}

-- An edit of C, whose new text has these bytes.
abbrev pub replacement_with : Edit → List ℕ → Replacement
replacement_with edit own =
    record { range = range_or_whole (range_if edit.is_whole edit.start edit.end); text = own }

-- The edits, each with its part of the texts.
abbrev pub replacements_of : List Edit → List ℕ → List Replacement
replacements_of [] texts = []
replacements_of (edit ∷ rest) texts =
    replacement_with edit (take edit.len texts) ∷ replacements_of rest (drop edit.len texts)

-- What a text edit replaces, and by which bytes.
abbrev pub replacement_of : TextEdit → Replacement
replacement_of edit = record { range = edit.range; text = string_bytes edit.new_text }

-- What a change replaces, and by which bytes.
abbrev pub replacement_by : Change → Replacement
replacement_by change = record { range = range_or_whole change.range; text = string_bytes change.text }

-- Text edits as C passes them, or the code of their refusal.
abbrev pub edits_asked : ℕ → List Edit → List ℕ → Result (List ℕ) ℕ → Result (Asked Replacement) ℕ
edits_asked number edits texts document = and_then (edits_encoding number edits texts)
    (λ encoding. fitting encoding edits (replacements_of edits texts) document)

-- A fault of text edits is reported by its code, with the numbers of the edits that it is about.
abbrev pub IsEditsReport : TextEditFault → ℕ → EditsFault → Type 0
IsEditsReport (text_edit.InsideCharacter edit side) code out =
    (code ≡ INSIDE_CHARACTER) × (out ≡ record { edit = edit; other = 0; at_end = is_end side })
IsEditsReport (text_edit.ReversedRange edit) code out =
    (code ≡ REVERSED_RANGE) × (out ≡ record { edit = edit; other = 0; at_end = false })
IsEditsReport (text_edit.Overlap first second) code out =
    (code ≡ OVERLAP) × (out ≡ record { edit = first; other = second; at_end = false })
IsEditsReport text_edit.NoMemory code out = code ≡ OUT_OF_MEMORY

-- The edits mean nothing on the text, and this is reported of them.
pub record AreFaulty (asked : Asked Replacement) (code : ℕ) (out : EditsFault) : Type 0 where
  pub edits : List TextEdit
  pub are : map replacement_of edits ≡ asked.edits
  pub fault : TextEditFault
  pub why : IsEditsFault (units_in asked.encoding) (chars asked.text) edits fault
  pub report : IsEditsReport fault code out

-- These changes are the canonical batch of what the edits mean.
pub record IsBatchOfAsked (asked : Asked Replacement) (changes : List Change) : Type 0 where
  pub edits : List TextEdit
  pub are : map replacement_of edits ≡ asked.edits
  pub batch : IsBatchOfEdits (units_in asked.encoding) asked.text edits (map content_change changes)

-- The handle holds the batch, or the edits are faulty.
abbrev pub AreBatched : Asked Replacement → ℕ → Option Object → EditsFault → Type 0
AreBatched asked code stored out =
    ((code ≡ OK) × IsOkAnd (in_handle as_batch stored) (IsBatchOfAsked asked))
    ⊎ AreFaulty asked code out

-- Changes put in more than they may, or leave too long a text.
abbrev pub IsTooMuch : Encoding → List ℕ → List Change → Type 0
IsTooMuch encoding text changes =
    (MAX_NEW_TEXT < sum_by (λ change. string_len change.text) changes)
    ⊎ (text_left encoding text (map content_change changes) ≡ Err TooLong)

-- The handle holds the text that the edits' batch leaves.
pub record HoldsEdited (asked : Asked Replacement) (stored : Option Object) : Type 0 where
  pub changes : List Change
  pub batch : IsBatchOfAsked asked changes
  pub text : List ℕ
  pub left : text_left asked.encoding asked.text (map content_change changes) ≡ Ok text
  pub holds : stored ≡ Some (Document text)

-- The edits' batch leaves too much.
pub record LeaveTooMuch (asked : Asked Replacement) : Type 0 where
  pub changes : List Change
  pub batch : IsBatchOfAsked asked changes
  pub over : IsTooMuch asked.encoding asked.text changes

-- The edits are made, or leave too long a text, or are faulty.
abbrev pub AreApplied : Asked Replacement → ℕ → Option Object → EditsFault → Type 0
AreApplied asked code stored out =
    ((code ≡ OK) × HoldsEdited asked stored)
    ⊎ ((code ≡ TOO_LONG) × LeaveTooMuch asked)
    ⊎ AreFaulty asked code out

-- Only a fault of an edit is written.
abbrev pub IsUnlessFaulty : ℕ → Type 0 → Type 0
IsUnlessFaulty code fact =
    code ≢ INSIDE_CHARACTER → code ≢ REVERSED_RANGE → code ≢ OVERLAP → fact
