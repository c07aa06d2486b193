-- How joined batches are kept: spans that own their texts, for each of some batches, each over the
-- text that those before it leave.
use Rattle.std.specs.Prelude.{◌≡◌, ◌∷◌}
use Rattle.lsp_edit.specs.Prelude.{ℕ, List, [], map, string_bytes, IsUtf8, chars}
use Rattle.lsp_edit.specs.declared.joined.layer.Layer.{Layer}
use Rattle.lsp_edit.specs.declared.joined.layer.OwnedSpan.{OwnedSpan}
use Rattle.lsp_edit.specs.declared.joined.layer.OwnedSpan.TheVariants.{Old as OldSpan, New as NewSpan}
use Rattle.lsp_edit.specs.Items.{Item, text_of}
use Rattle.lsp_edit.specs.Compose.{then_items}
use Rattle.lsp_edit.specs.Keeps.{Keeps}
use Rattle.lsp_edit.specs.Parts.{Part, OldPart, NewPart, AreParts, items_of}

-- The part that an owned span is.
abbrev pub owned_part : OwnedSpan → Part
owned_part (OldSpan from to) = OldPart from to
owned_part (NewSpan text) = NewPart (string_bytes text)

-- The parts of owned spans.
abbrev pub owned_parts : List OwnedSpan → List Part
owned_parts spans = map owned_part spans

-- The parts of a layer.
abbrev pub layer_parts : Layer → List Part
layer_parts layer = owned_parts layer.spans.items

-- Parts of a text that keep each CRLF of it whole.
pub record AreKept (text : List ℕ) (parts : List Part) : Type 0 where
  pub utf8 : IsUtf8 text
  pub are : AreParts text parts
  pub keeps : Keeps (chars text) 0 (items_of (chars text) parts)

-- Parts of the text that items leave of the text `old`.
pub record IsOver (old : List ℕ) (items : List Item) (parts : List Part) : Type 0 where
  -- The bytes of that text.
  pub middle : List ℕ
  pub text_is : chars middle ≡ text_of old items
  pub kept : AreKept middle parts

-- The items that lists of parts are together, one after another, after other items.
abbrev pub items_over : List ℕ → List Item → List (List Part) → List Item
items_over old items [] = items
items_over old items (parts ∷ rows)
    = items_over old (then_items items (items_of (text_of old items) parts)) rows

-- Each list of parts is over the text that those before it leave.
abbrev pub AllOver : List ℕ → List Item → List (List Part) → Type 0
AllOver old items [] = Unit {0}
AllOver old items (parts ∷ rows) =
    IsOver old items parts
    × AllOver old (then_items items (items_of (text_of old items) parts)) rows
