-- Batches of changes on a text, one after another, as one.
use Rattle.std.specs.Prelude.{◌≡◌}
use Rattle.lsp_edit.specs.Prelude.{ℕ, List, Ok, IsUtf8, chars}
use Rattle.lsp_edit.specs.Items.{Item, text_of}
use Rattle.lsp_edit.specs.Batch.{ContentChange, meaning}
use Rattle.lsp_edit.specs.Compose.{then_items}

-- The text before all batches, as bytes, and what became of its characters.
pub record JoinedData : Type 0 where
  pub before : List ℕ
  pub items : List Item

-- The text after all batches.
abbrev pub joined_text : JoinedData → List ℕ
joined_text joined = text_of (chars joined.before) joined.items

-- A text has the bytes that all batches leave.
pub record IsReached (joined : JoinedData) (text : List ℕ) : Type 0 where
  pub utf8 : IsUtf8 text
  pub text_is : chars text ≡ joined_text joined

-- A batch is added to those before it.
pub record IsJoined (units : ℕ → ℕ) (old : JoinedData) (batch : List ContentChange)
    (new : JoinedData) : Type 0 where
  -- What the batch means on the text that the others leave.
  pub others : List Item
  pub means : meaning units (joined_text old) batch ≡ Ok others
  -- The new items are the composition of the old ones and these.
  pub is : new ≡ record old { items = then_items old.items others }
