-- The one canonical batch of all batches that keep the same old characters and insert the same
-- texts between them.
use Rattle.std.specs.Prelude.{◌≡◌, ◌||◌, ◌∷◌, ◌++◌}
use Rattle.lsp_edit.specs.Prelude.{ℕ, suc, Bool, nat_lt, List, [], length, map, reverse, filter, Some, exact_position}
use Rattle.lsp_edit.specs.Items.{Item, Old, New}
use Rattle.lsp_edit.specs.Batch.{ContentChange}

-- The old characters that are kept, by their indexes, in order.
abbrev pub kept : List Item → List ℕ
kept [] = []
kept (Old index ∷ items) = index ∷ kept items
kept (New character ∷ items) = kept items

-- The gap texts, with one more character at the front of the first.
abbrev pub put_first : ℕ → List (List ℕ) → List (List ℕ)
put_first character [] = []
put_first character (gap ∷ gaps) = (character ∷ gap) ∷ gaps

-- The gap texts: the new characters before the first kept one, between neighbouring kept ones, and
-- after the last.
abbrev pub gap_texts : List Item → List (List ℕ)
gap_texts [] = [] ∷ []
gap_texts (Old index ∷ items) = [] ∷ gap_texts items
gap_texts (New character ∷ items) = put_first character (gap_texts items)

-- Two meanings do the same if they keep the same old characters and have the same gap texts.
pub record DoTheSame (items others : List Item) : Type 0 where
  pub same_kept : kept items ≡ kept others
  pub same_texts : gap_texts items ≡ gap_texts others

-- A gap of the old text between kept characters, and the text that replaces it.
pub record Gap : Type 0 where
  pub low : ℕ
  pub high : ℕ
  pub text : List ℕ

-- The gaps of items over an old text of `len` characters, from the index `low` on, where `text` is
-- the new text so far. At the end of the items the last gap goes up to `len`. A kept character ends
-- a gap, and the next gap begins after it, with no text. A new character is appended to the text.
abbrev pub gaps_from : ℕ → ℕ → List ℕ → List Item → List Gap
gaps_from low len text [] = record { low = low; high = len; text = text } ∷ []
gaps_from low len text (Old index ∷ items)
    = record { low = low; high = index; text = text } ∷ gaps_from (suc index) len [] items
gaps_from low len text (New character ∷ items) = gaps_from low len (text ++ character ∷ []) items

-- All gaps.
abbrev pub gaps : List ℕ → List Item → List Gap
gaps old items = gaps_from 0 (length old) [] items

-- A gap is changed if it has an old character, or a new text.
abbrev pub is_changed : Gap → Bool
is_changed gap = nat_lt gap.low gap.high || nat_lt 0 (length gap.text)

-- The change of a gap: its range is the exact positions of the gap's two ends in the old text.
abbrev pub change_of_gap : (ℕ → ℕ) → List ℕ → Gap → ContentChange
change_of_gap units old gap =
    record {
      range = Some (record {
        start = exact_position units old gap.low;
        stop = exact_position units old gap.high;
      });
      text = gap.text;
    }

-- The canonical batch of items: one change for each changed gap, from the last gap to the first.
abbrev pub canonical : (ℕ → ℕ) → List ℕ → List Item → List ContentChange
canonical units old items = reverse (map (change_of_gap units old) (filter is_changed (gaps old items)))
