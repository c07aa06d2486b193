-- What a text becomes under a batch of changes, character by character.
use Rattle.lsp_edit.specs.Prelude.{ℕ, List, length, map, slice_index, numbers_from}

-- An item is an old character, given by its index in the old text, or a new character.
pub data Item : Type 0 where
  Old New : ℕ → Item

-- The old text unchanged: each of its characters, in order.
abbrev pub plain : List ℕ → List Item
plain old = map Old (numbers_from 0 (length old))

-- The character of an item.
abbrev pub character_of : List ℕ → Item → ℕ
character_of old (Old index) = slice_index old index
character_of old (New character) = character

-- The text of items, over an old text.
abbrev pub text_of : List ℕ → List Item → List ℕ
text_of old items = map (character_of old) items
