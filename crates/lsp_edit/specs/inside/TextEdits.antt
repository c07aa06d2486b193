-- Text edits with their byte offsets, in the order of their starts. Only proofs and private
-- contracts use this: `TextEdits` says the same by indexes.
use Rattle.std.specs.Prelude.{◌≡◌, ◌+◌, ◌<◌, ◌≤◌, ◌∷◌, ◌++◌, slice_index_or}
use Rattle.lsp_edit.specs.Prelude.{ℕ, true, List, [], length, map, Result, Ok, Err, chars, is_utf8, TextEdit, TextEditFault, Overlap}
use Rattle.std.specs.List.{All}
use Rattle.std.specs.Ordering.{nat_cmp}
use Rattle.std.specs.List.Sorted.{IsPermutation, IsSortedByKey, IsStableByKey}
use Rattle.lsp_text.specs.LineStarts.{IsPlace}
use Rattle.lsp_edit.specs.declared.text_edits.Placed.{Placed}
use Rattle.lsp_edit.specs.Batch.{Fault}
use Rattle.lsp_edit.specs.Parts.{Part, index_of, new_parts}
use Rattle.lsp_edit.specs.inside.Parts.{old_parts}
use Rattle.lsp_edit.specs.TextEdits.{LocatedEdit, located}

-- An edit with byte offsets, by indexes.
abbrev pub located_of : List ℕ → Placed → LocatedEdit
located_of old placed =
    record {
      number = placed.number;
      start = index_of old placed.start;
      stop = index_of old placed.stop;
      text = chars placed.text.now;
    }

-- An edit between characters of a text, of which neither end splits a CRLF.
pub record Lies (old : List ℕ) (edit : Placed) : Type 0 where
  pub at_start : IsPlace old edit.start
  pub at_stop : IsPlace old edit.stop
  pub order : edit.start ≤ edit.stop
  pub utf8 : is_utf8 edit.text.now ≡ true

-- These edits after others, or their fault.
abbrev pub located_after : List LocatedEdit → Result (List LocatedEdit) (ℕ × Fault) →
    Result (List LocatedEdit) (ℕ × Fault)
located_after front (Ok edits) = Ok (front ++ edits)
located_after front (Err fault) = Err fault

-- The edits up to `rest` have these byte offsets in the old text, and their numbers are their
-- indexes.
pub record ArePlaced (units : ℕ → ℕ) (old : List ℕ) (edits rest : List TextEdit)
    (placed : List Placed) : Type 0 where
  pub at : located units old 0 edits
      ≡ located_after (map (located_of old) placed) (located units old (length placed) rest)
  pub lie : All (Lies old) placed
  pub numbered : (k : ℕ) (d : Placed) → k < length placed → (slice_index_or placed k d).number ≡ k

-- The same edits sorted by their starts. Those with the same start keep the order of the list.
pub record IsInOrder (placed ordered : List Placed) : Type 0 where
  pub same : IsPermutation placed ordered
  pub sorted : IsSortedByKey (λ edit. edit.start) nat_cmp ordered
  pub stable : IsStableByKey (λ edit. edit.start) nat_cmp placed ordered

-- No edit starts before `low`, nor before the stop of the one before it.
abbrev pub AreApart : ℕ → List Placed → Type 0
AreApart low [] = Unit {0}
AreApart low (edit ∷ edits) = (low ≤ edit.start) × AreApart edit.stop edits

-- What edits leave of the old text from the byte offset `low` on: their texts, and the old text
-- between them.
abbrev pub parts_left : ℕ → ℕ → List Placed → List Part
parts_left len low [] = old_parts low len
parts_left len low (edit ∷ edits)
    = old_parts low edit.start ++ (new_parts edit.text.now ++ parts_left len edit.stop edits)

-- These parts are what edits leave of the text with the bytes `before`.
pub record AreLeftByEdits (units : ℕ → ℕ) (before : List ℕ) (edits : List TextEdit)
    (parts : List Part) : Type 0 where
  pub placed : List Placed
  pub ordered : List Placed
  pub at : ArePlaced units (chars before) edits [] placed
  pub order : IsInOrder placed ordered
  pub apart : AreApart 0 ordered
  pub are : parts ≡ parts_left (length before) 0 ordered

-- Two neighbours in the order of their starts overlap: the second starts before the first stops.
pub record DoOverlap (ordered : List Placed) (fault : TextEditFault) : Type 0 where
  pub index : ℕ
  pub first : Placed
  pub second : Placed
  pub within : index + 1 < length ordered
  pub first_is : slice_index_or ordered index first ≡ first
  pub second_is : slice_index_or ordered (index + 1) second ≡ second
  pub over : second.start < first.stop
  pub error : fault ≡ Overlap first.number second.number
