-- The parts of spans: parts of the old text, given by byte offsets, and parts of new texts.
use Rattle.std.specs.Prelude.{◌≡◌, ◌-◌, ◌<◌, ◌≤◌, if◌then◌else◌, ◌==◌, ◌∷◌}
use Rattle.lsp_edit.specs.Prelude.{ℕ, suc, Bool, true, false, List, [], length, map, take, drop, flat_map, IsCharBoundary, chars, is_utf8, Span, numbers_from}
use Rattle.std.specs.Char.{len_utf8}
use Rattle.lsp_edit.specs.declared.pieces.span.Span.TheVariants.{Old as OldSpan, New as NewSpan}
use Rattle.lsp_edit.specs.Items.{Item, Old, New}

-- A part: the bytes of the old text from one byte offset to another, or the bytes of a new text.
pub data Part : Type 0 where
  OldPart : ℕ → ℕ → Part
  NewPart : List ℕ → Part

-- The part that a span is.
abbrev pub part_of : Span → Part
part_of (OldSpan from to) = OldPart from to
part_of (NewSpan text) = NewPart text.now

-- The parts of spans, in order.
abbrev pub parts_of : List Span → List Part
parts_of spans = map part_of spans

-- The index of a byte offset: how many characters of the text begin before it.
abbrev pub index_of : List ℕ → ℕ → ℕ
index_of [] place = 0
index_of (c ∷ text) place = if place == 0 then 0 else suc (index_of text (place - len_utf8 c))

-- The items of a part of the old text `old`, or of a new text.
abbrev pub items_in : List ℕ → Part → List Item
items_in old (OldPart from to)
    = map Old (numbers_from (index_of old from) (index_of old to - index_of old from))
items_in old (NewPart bytes) = map New (chars bytes)

-- The items of parts, one after another.
abbrev pub items_of : List ℕ → List Part → List Item
items_of old parts = flat_map (items_in old) parts

-- The bytes of a part of the text with the bytes `old`, or of a new text.
abbrev pub bytes_in : List ℕ → Part → List ℕ
bytes_in old (OldPart from to) = take (to - from) (drop from old)
bytes_in old (NewPart bytes) = bytes

-- The bytes of parts, one after another.
abbrev pub bytes_of : List ℕ → List Part → List ℕ
bytes_of old parts = flat_map (bytes_in old) parts

-- How many bytes a part has.
abbrev pub part_len : Part → ℕ
part_len (OldPart from to) = to - from
part_len (NewPart bytes) = length bytes

-- A part isn't empty, and is cut between characters.
abbrev pub IsPartOf : List ℕ → Part → Type 0
IsPartOf old (OldPart from to) = (from < to) × IsCharBoundary old from × IsCharBoundary old to
IsPartOf old (NewPart bytes) = (0 < length bytes) × (is_utf8 bytes ≡ true)

-- Each part is such a part of the text with the bytes `old`.
abbrev pub AreParts : List ℕ → List Part → Type 0
AreParts old [] = Unit {0}
AreParts old (part ∷ parts) = IsPartOf old part × AreParts old parts

-- The part of a new text, if that isn't empty.
abbrev pub new_parts : List ℕ → List Part
new_parts bytes = if length bytes == 0 then [] else NewPart bytes ∷ []

-- No part is empty.
abbrev pub NoneEmpty : List Part → Type 0
NoneEmpty [] = Unit {0}
NoneEmpty (part ∷ parts) = (0 < part_len part) × NoneEmpty parts

-- Whether two neighbours are parts of the old text that touch.
abbrev pub touch : Part → Part → Bool
touch (OldPart from to) (OldPart next end) = to == next
touch (OldPart from to) (NewPart bytes) = false
touch (NewPart bytes) part = false

-- A part doesn't touch the first of those after it.
abbrev pub IsApart : Part → List Part → Type 0
IsApart part [] = Unit {0}
IsApart part (next ∷ parts) = touch part next ≡ false

-- No part touches the next one.
abbrev pub NoneTouch : List Part → Type 0
NoneTouch [] = Unit {0}
NoneTouch (part ∷ parts) = IsApart part parts × NoneTouch parts

-- The parts of the old text come in order: each begins at `low` or after it, and where the old part
-- before it ends or after it. New parts between them are passed over.
abbrev pub Ascend : ℕ → List Part → Type 0
Ascend low [] = Unit {0}
Ascend low (OldPart from to ∷ parts) = (low ≤ from) × (from ≤ to) × Ascend to parts
Ascend low (NewPart bytes ∷ parts) = Ascend low parts
