-- A batch of changes that was resolved once on a text, and what is read from it.
use Rattle.std.specs.Prelude.{◌≡◌, ◌≤◌, ◌∷◌, ◌++◌}
use Rattle.lsp_edit.specs.Prelude.{ℕ, List, [], length, map, take, drop, string_len, sum_by, Some, Result, Ok, replace_range, IsUtf8, chars, Range, units_in, Change}
use Rattle.lsp_text.specs.declared.encoding.Encoding.{Encoding}
use Rattle.lsp_edit.specs.declared.delta.Delta.{Delta}
use Rattle.lsp_edit.specs.declared.delta.Delta.TheVariants.{Put, Left}
use Rattle.lsp_edit.specs.Items.{Item, New, plain, text_of}
use Rattle.lsp_edit.specs.Batch.{ContentChange, Fault, items_after, meaning, ends_of}
use Rattle.lsp_edit.specs.Edited.{content_change}
use Rattle.lsp_edit.specs.Faults.{places_at}
use Rattle.lsp_edit.specs.Indexed.{bytes_left, text_within}
use Rattle.lsp_edit.specs.Parts.{index_of}

-- The items after the bytes from `start` to `stop` are replaced by those of `new`.
abbrev pub put_items : List ℕ → ℕ → ℕ → List ℕ → List Item
put_items before start stop new =
    take (index_of (chars before) start) (plain (chars before))
    ++ (map New (chars new) ++ drop (index_of (chars before) stop) (plain (chars before)))

-- What a delta means on the text with the bytes `before`.
abbrev pub meant_by : List ℕ → Delta → Result (List Item) (ℕ × Fault)
meant_by before (Put put) = Ok (put_items before put.start put.stop put.new.now)
meant_by before (Left left)
    = meaning (units_in left.encoding) (chars before) (map content_change left.changes.now)

-- The bytes that a delta leaves of that text.
abbrev pub bytes_after : List ℕ → Delta → List ℕ
bytes_after before (Put put) = replace_range before put.start put.stop put.new.now
bytes_after before (Left left) = left.text

-- The encoding whose units the positions of a delta's batch count in.
abbrev pub delta_encoding : Delta → Encoding
delta_encoding (Put put) = put.encoding
delta_encoding (Left left) = left.encoding

-- The two byte offsets are those of a range's ends in that text. It and the new text have at most
-- 1 GiB each.
pub record IsPut (units : ℕ → ℕ) (before : List ℕ) (start stop : ℕ) (new : List ℕ) : Type 0 where
  pub utf8 : IsUtf8 before
  pub size : length before ≤ 1073741824
  pub new_utf8 : IsUtf8 new
  pub short : length new ≤ 1073741824
  pub range : Range
  pub places : Ok (start, stop) ≡ places_at 0 (chars before) (ends_of units (chars before) range)

-- These are the byte offsets of a change's range in a text, if it has a range.
abbrev pub AreEndsIn : (ℕ → ℕ) → List ℕ → ContentChange → ℕ × ℕ → Type 0
AreEndsIn units text change ends = (range : Range) → change.range ≡ Some range
    → Ok ends ≡ places_at 0 text (ends_of units text range)

-- These are the byte offsets of the changes' ranges, each in the text that its change meets.
abbrev pub AreEndsOf : (ℕ → ℕ) → List ℕ → List Item → List ContentChange → List (ℕ × ℕ) → Type 0
AreEndsOf units old items [] ends = Unit {0}
AreEndsOf units old items (change ∷ changes) [] = ⊥
AreEndsOf units old items (change ∷ changes) (end ∷ ends) =
    AreEndsIn units (text_of old items) change end
    × ((next : List Item) → items_after units old items change ≡ Ok next
    → AreEndsOf units old next changes ends)

-- A batch leaves these bytes of that text. It has at most 1 GiB, and so have the batch's texts
-- together.
pub record IsLeft (units : ℕ → ℕ) (before : List ℕ) (changes : List Change) (ends : List (ℕ × ℕ))
    (left : List ℕ) : Type 0 where
  pub utf8 : IsUtf8 before
  pub size : length before ≤ 1073741824
  pub fits : sum_by (λ change. string_len change.text) changes ≤ 1073741824
  pub items : List Item
  pub means : meaning units (chars before) (map content_change changes) ≡ Ok items
  pub is : left ≡ bytes_left before items
  pub ends_are : AreEndsOf units (chars before) (plain (chars before)) (map content_change changes)
      ends

-- A delta may be applied to that text.
abbrev pub IsOn : List ℕ → Delta → Type 0
IsOn before (Put put)
    = IsPut (units_in put.encoding) before put.start put.stop put.new.now
IsOn before (Left left)
    = IsLeft (units_in left.encoding) before left.changes.now left.ends.items left.text

-- A delta of `batch` on that text; at most `max_len` bytes are left.
pub record IsDeltaOf (units : ℕ → ℕ) (max_len : ℕ) (before : List ℕ) (batch : List ContentChange)
    (delta : Delta) : Type 0 where
  pub on : IsOn before delta
  pub units_are : units_in (delta_encoding delta) ≡ units
  pub means : meaning units (chars before) batch ≡ meant_by before delta
  pub is : text_within max_len before (meaning units (chars before) batch)
      ≡ Ok (bytes_after before delta)
