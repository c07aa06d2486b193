-- The text that a batch of changes leaves, made change by change in a copy of the text.
use Rattle.std.specs.Prelude.{◌≡◌, ◌∷◌}
use Rattle.lsp_edit.specs.Prelude.{ℕ, List, [], None, Ok, chars}
use Rattle.lsp_edit.specs.Batch.{ContentChange, items_after}
use Rattle.lsp_edit.specs.Delta.{AreEndsIn}
use Rattle.lsp_edit.specs.Indexed.{bytes_left}
use Rattle.lsp_edit.specs.Items.{Item, plain}

-- A change with these byte offsets of its range's ends makes the bytes `left` of the text `before`.
pub record IsAfter (units : ℕ → ℕ) (before : List ℕ) (change : ContentChange) (left : List ℕ)
    (ends : ℕ × ℕ) : Type 0 where
  pub items : List Item
  pub made : items_after units (chars before) (plain (chars before)) change ≡ Ok items
  pub is : left ≡ bytes_left before items
  pub ends_are : AreEndsIn units (chars before) change ends

-- The first change of a batch replaces the whole text.
abbrev pub BeginsAnew : List ContentChange → Type 0
BeginsAnew [] = ⊥
BeginsAnew (change ∷ changes) = change.range ≡ None
