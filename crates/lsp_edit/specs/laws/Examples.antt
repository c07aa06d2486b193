-- Examples of batches and text edits in UTF-16: the text that they leave and its canonical batch,
-- or their fault.
use Rattle.std.specs.Prelude.{◌≡◌, ◌∷◌}
use Rattle.lsp_edit.specs.Prelude.{ℕ, List, [], length, codes, Some, None, Result, Ok, Err, units_in, denoted}
use Rattle.lsp_text.specs.declared.encoding.Encoding.TheVariants.{Utf16}
use Rattle.lsp_edit.specs.Items.{Item, text_of}
use Rattle.lsp_edit.specs.Batch.{ContentChange, Fault, InsideStart, InsideStop, Reversed, meaning}
use Rattle.lsp_edit.specs.Canonical.{canonical}
use Rattle.lsp_edit.specs.Compose.{then_items}
use Rattle.lsp_edit.specs.TextEdits.{LocatedEdit, items_left}

-- A change from one line and character to another.
abbrev pub change : ℕ → ℕ → ℕ → ℕ → List ℕ → ContentChange
change line character stop_line stop_character text =
    record {
      range = Some (record {
        start = record { line = line; character = character };
        stop = record { line = stop_line; character = stop_character };
      });
      text = text;
    }

-- A change of the whole text.
abbrev pub whole : List ℕ → ContentChange
whole text = record { range = None; text = text }

-- What a batch leaves: its text and its canonical batch.
pub record Left : Type 0 where
  pub text : List ℕ
  pub batch : List ContentChange

-- What a meaning leaves.
abbrev pub left_of : List ℕ → Result (List Item) (ℕ × Fault) → Result Left (ℕ × Fault)
left_of old (Ok items)
    = Ok (record { text = text_of old items; batch = canonical (units_in Utf16) old items })
left_of old (Err fault) = Err fault

-- What a batch leaves of a text.
abbrev pub leaves : List ℕ → List ContentChange → Result Left (ℕ × Fault)
leaves old batch = left_of old (meaning (units_in Utf16) old batch)

-- What it should leave.
abbrev pub left : List ℕ → List ContentChange → Result Left (ℕ × Fault)
left text batch = Ok (record { text = text; batch = batch })

-- What two batches leave, one after the other, as one over the old text of the first.
abbrev pub through : List ℕ → List ℕ → Result (List Item) (ℕ × Fault) →
    Result (List Item) (ℕ × Fault) → Result Left (ℕ × Fault)
through old middle (Ok first) (Ok second) = left_of old (Ok (then_items first second))
through old middle (Ok first) (Err fault) = Err fault
through old middle (Err fault) second = Err fault

-- A text edit from one index to another.
abbrev pub edit_at : ℕ → ℕ → ℕ → List ℕ → LocatedEdit
edit_at number start stop text
    = record { number = number; start = start; stop = stop; text = text }

-- What text edits leave of a text.
abbrev pub edits_leave : List ℕ → List LocatedEdit → Result Left (ℕ × Fault)
edits_leave old edits = left_of old (Ok (items_left edits (length old)))

-- What the definitions say of the examples.
pub record HoldsOnExamples : Type 0 where
  -- A change and an insertion at its start are one change, whichever comes first.
  pub a_deletion_and_an_insertion : leaves (codes "abc")
      (change 0 1 0 2 [] ∷ change 0 1 0 1 (codes "X") ∷ [])
      ≡ left (codes "aXc") (change 0 1 0 2 (codes "X") ∷ [])
  pub an_insertion_and_a_deletion : leaves (codes "abc")
      (change 0 2 0 2 (codes "X") ∷ change 0 1 0 2 [] ∷ [])
      ≡ left (codes "aXc") (change 0 1 0 2 (codes "X") ∷ [])
  -- Deleting the first of two equal characters isn't deleting the second.
  pub the_first_of_two : leaves (codes "aa") (change 0 0 0 1 [] ∷ [])
      ≡ left (codes "a") (change 0 0 0 1 [] ∷ [])
  pub the_second_of_two : leaves (codes "aa") (change 0 1 0 2 [] ∷ [])
      ≡ left (codes "a") (change 0 1 0 2 [] ∷ [])
  -- A whole text keeps no old character, whatever its characters are.
  pub the_whole_text : leaves (codes "aa") (whole (codes "a") ∷ [])
      ≡ left (codes "a") (change 0 0 0 2 (codes "a") ∷ [])
  pub the_same_whole_text : leaves (codes "abc") (whole (codes "abc") ∷ [])
      ≡ left (codes "abc") (change 0 0 0 3 (codes "abc") ∷ [])
  pub no_text : leaves (codes "abc") (whole [] ∷ []) ≡ left [] (change 0 0 0 3 [] ∷ [])
  pub no_text_from_none : leaves [] (whole [] ∷ []) ≡ left [] []
  -- Changes that touch are one change.
  pub touching_changes : leaves (codes "abcde")
      (change 0 1 0 2 (codes "X") ∷ change 0 3 0 4 (codes "Y") ∷ change 0 2 0 3 [] ∷ [])
      ≡ left (codes "aXYe") (change 0 1 0 4 (codes "XY") ∷ [])
  -- A CRLF that arises from a CR and an LF, and an insertion after it.
  pub a_new_line_end : leaves (97 ∷ 13 ∷ 88 ∷ 10 ∷ 98 ∷ [])
      (change 1 0 1 1 [] ∷ change 1 0 1 0 (codes "Q") ∷ [])
      ≡ left (97 ∷ 13 ∷ 10 ∷ 81 ∷ 98 ∷ []) (change 2 0 2 0 (codes "Q") ∷ change 1 0 1 1 [] ∷ [])
  -- A line end is kept whole or not at all.
  pub a_line_end_replaced : leaves (97 ∷ 13 ∷ 10 ∷ 98 ∷ []) (change 0 1 1 0 (13 ∷ []) ∷ [])
      ≡ left (97 ∷ 13 ∷ 98 ∷ []) (change 0 1 1 0 (13 ∷ []) ∷ [])
  pub a_line_end_by_itself : leaves (97 ∷ 13 ∷ 10 ∷ 98 ∷ []) (change 0 1 1 0 (13 ∷ 10 ∷ []) ∷ [])
      ≡ left (97 ∷ 13 ∷ 10 ∷ 98 ∷ []) (change 0 1 1 0 (13 ∷ 10 ∷ []) ∷ [])
  pub past_the_line : denoted (units_in Utf16) (97 ∷ 13 ∷ 10 ∷ 98 ∷ [])
      (record { line = 0; character = 9 }) ≡ Some 1
  pub after_the_line_end : denoted (units_in Utf16) (97 ∷ 13 ∷ 10 ∷ 98 ∷ [])
      (record { line = 1; character = 0 }) ≡ Some 3
  pub past_the_last_line : denoted (units_in Utf16) (97 ∷ 10 ∷ [])
      (record { line = 7; character = 3 }) ≡ Some 2
  -- The second change is at fault.
  pub a_reversed_range : leaves (codes "abc") (change 0 0 0 1 (codes "Z") ∷ change 0 2 0 1 [] ∷ [])
      ≡ Err (1, Reversed)
  -- Inside a character of two units.
  pub inside_the_start : leaves (0x1_F600 ∷ []) (change 0 1 0 1 [] ∷ []) ≡ Err (0, InsideStart)
  pub inside_the_stop : leaves (0x1_F600 ∷ []) (change 0 2 0 1 [] ∷ []) ≡ Err (0, InsideStop)
  -- A range is reversed by what it denotes, not by its numbers.
  pub past_the_end_twice : leaves (codes "abc") (change 0 9 0 3 [] ∷ []) ≡ left (codes "abc") []
  -- Ranges count in the text that they meet, those of the canonical batch also in the old text.
  pub a_deletion_and_an_end : leaves (codes "abcdefgh")
      (change 0 0 0 3 [] ∷ change 0 5 0 5 (codes "xyz") ∷ [])
      ≡ left (codes "defghxyz") (change 0 8 0 8 (codes "xyz") ∷ change 0 0 0 3 [] ∷ [])
  -- An insertion after the last line end, one after it, and both together.
  pub after_the_last_line_end : leaves (97 ∷ 10 ∷ []) (change 7 3 7 3 (codes "b") ∷ [])
      ≡ left (97 ∷ 10 ∷ 98 ∷ []) (change 1 0 1 0 (codes "b") ∷ [])
  pub two_batches : through (97 ∷ 10 ∷ []) (97 ∷ 10 ∷ 98 ∷ [])
      (meaning (units_in Utf16) (97 ∷ 10 ∷ []) (change 7 3 7 3 (codes "b") ∷ []))
      (meaning (units_in Utf16) (97 ∷ 10 ∷ 98 ∷ []) (change 1 1 1 1 (codes "c") ∷ []))
      ≡ left (97 ∷ 10 ∷ 98 ∷ 99 ∷ []) (change 1 0 1 0 (codes "bc") ∷ [])
  -- Text edits count in the old text, in whatever order they come.
  pub two_edits : edits_leave (codes "abcdef")
      (edit_at 0 0 2 [] ∷ edit_at 1 3 4 (codes "XYZ") ∷ [])
      ≡ left (codes "cXYZef") (change 0 3 0 4 (codes "XYZ") ∷ change 0 0 0 2 [] ∷ [])
  pub the_last_edit_first : edits_leave (codes "abcdef")
      (edit_at 0 3 4 (codes "XYZ") ∷ edit_at 1 0 2 [] ∷ [])
      ≡ left (codes "cXYZef") (change 0 3 0 4 (codes "XYZ") ∷ change 0 0 0 2 [] ∷ [])
  -- Those that start at one index come in the order of the list.
  pub at_one_index : edits_leave (codes "abc")
      (edit_at 0 1 1 (codes "X") ∷ edit_at 1 1 1 (codes "Y") ∷ edit_at 2 1 2 (codes "Z") ∷ [])
      ≡ left (codes "aXYZc") (change 0 1 0 2 (codes "XYZ") ∷ [])
  pub at_the_end : edits_leave (codes "ab") (edit_at 0 2 2 (codes "X") ∷ [])
      ≡ left (codes "abX") (change 0 2 0 2 (codes "X") ∷ [])
