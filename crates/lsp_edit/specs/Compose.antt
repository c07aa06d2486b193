-- What two batches, one after the other, mean together.
use Rattle.std.specs.Prelude.{List, map, slice_index_or}
use Rattle.lsp_edit.specs.Items.{Item, Old, New}

-- An item over the text of `first`, as one over what `first` is over: an old character of that text
-- is an item of `first`. (The default is never used: each index is one of that text.)
abbrev pub item_through : List Item → Item → Item
item_through first (Old index) = slice_index_or first index (New 0)
item_through first (New character) = New character

-- The items of `second`, which are over the text of `first`, as items over what `first` is over.
abbrev pub then_items : List Item → List Item → List Item
then_items first second = map (item_through first) second
