-- A text under changes, as callers see it.
use Rattle.std.specs.Prelude.{◌≡◌, ◌+◌, ◌*◌, ◌≤◌}
use Rattle.lsp_edit.specs.Prelude.{ℕ, true, List, length, min, string_bytes, encode_utf8_all, Option, Result, Ok, MatchOption, chars, is_utf8, Change}
use Rattle.lsp_edit.specs.Items.{Item, plain, text_of}
use Rattle.lsp_edit.specs.Batch.{ContentChange, Fault, items_after}
use Rattle.lsp_edit.specs.Keeps.{Keeps}
use Rattle.lsp_edit.specs.Parts.{Part, AreParts, NoneTouch, items_of, bytes_of}

-- The old text, what became of it, and how many changes were applied.
pub record PlainData : Type 0 where
  pub before : List ℕ
  pub items : List Item
  pub changes : ℕ

-- The same, and the parts of its spans.
pub record PiecesData : Type 0 where
  pub edited : PlainData
  pub parts : List Part

-- The current text.
abbrev pub edited_text : PlainData → List ℕ
edited_text edited = text_of edited.before edited.items

-- The bytes of the current text.
abbrev pub edited_bytes : PlainData → List ℕ
edited_bytes edited = encode_utf8_all (edited_text edited)

-- The bytes of the old text.
abbrev pub before_bytes : PlainData → List ℕ
before_bytes edited = encode_utf8_all edited.before

-- A change with its text as characters.
abbrev pub content_change : Change → ContentChange
content_change change = record { range = change.range; text = chars (string_bytes change.text) }

-- One change more. The count stays at the greatest number of 64 bits.
abbrev pub next_number : ℕ → ℕ
next_number changes = min (changes + 1) 18446744073709551615

-- The changes of both. The count stays at the greatest number of 64 bits.
abbrev pub both_counts : ℕ → ℕ → ℕ
both_counts first second = min (first + second) 18446744073709551615

-- `next` is `edited` after a change, and counts it.
pub record Applied (units : ℕ → ℕ) (edited : PlainData) (change : ContentChange) (next : PlainData) : Type
    0 where
  pub changed : items_after units edited.before edited.items change ≡ Ok next.items
  pub same : next.before ≡ edited.before
  pub counted : next.changes ≡ next_number edited.changes

-- What is true of the fields of pieces. The spans are parts of the old text and of new texts, and
-- no two neighbours touch. They keep each CRLF of it whole, and there are at most two more of them
-- for each change.
pub record ArePieces (before : List ℕ) (parts : List Part) (len changes : ℕ) : Type 0 where
  pub utf8 : is_utf8 before ≡ true
  pub are : AreParts before parts
  pub apart : NoneTouch parts
  pub keeps : Keeps (chars before) 0 (items_of (chars before) parts)
  pub long : len ≡ length (bytes_of before parts)
  pub room : len ≤ 2147483648
  pub few : length parts ≤ 1 + 2 * changes
  pub fresh : changes ≡ 0 → items_of (chars before) parts ≡ plain (chars before)

-- A current text, if there is one, has these bytes.
abbrev pub IsCurrent : List ℕ → Option (List ℕ) → Type 0
IsCurrent bytes current = MatchOption current (Unit {0}) (λ text. text ≡ bytes)

-- The result of a batch on a text: its meaning, after so many changes.
pub record Means (before : List ℕ) (meant : Result (List Item) (ℕ × Fault)) (changes : ℕ)
    (edited : PlainData) : Type 0 where
  pub means : meant ≡ Ok edited.items
  pub same : edited.before ≡ before
  pub counted : edited.changes ≡ changes
