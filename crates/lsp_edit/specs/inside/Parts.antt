-- What only proofs and private contracts use of `Parts`.
use Rattle.std.specs.Prelude.{◌≡◌, ◌+◌, ◌-◌, ◌<◌, ◌≤◌, if◌then◌else◌, ◌==◌, ◌∷◌, ◌++◌}
use Rattle.lsp_edit.specs.Prelude.{ℕ, nat_lt, List, [], length, take, drop, sum_by, IsCharBoundary, Span}
use Rattle.lsp_edit.specs.Parts.{Part, part_of, part_len, new_parts, OldPart, NewPart}

-- The first bytes of a part.
abbrev pub front_part : Part → ℕ → Part
front_part (OldPart from to) count = OldPart from (from + count)
front_part (NewPart bytes) count = NewPart (take count bytes)

-- What comes after the first bytes of a part.
abbrev pub back_part : Part → ℕ → Part
back_part (OldPart from to) count = OldPart (from + count) to
back_part (NewPart bytes) count = NewPart (drop count bytes)

-- The parts before a byte offset.
abbrev pub front_parts : List Part → ℕ → List Part
front_parts [] place = []
front_parts (part ∷ parts) place =
    if place == 0 then []
    else if nat_lt place (part_len part) then front_part part place ∷ []
    else part ∷ front_parts parts (place - part_len part)

-- The parts after a byte offset.
abbrev pub back_parts : List Part → ℕ → List Part
back_parts [] place = []
back_parts (part ∷ parts) place =
    if nat_lt place (part_len part) then back_part part place ∷ parts
    else back_parts parts (place - part_len part)

-- Two parts, one after another; if both are of the old text and touch they are one.
abbrev pub joined : Part → Part → List Part
joined (OldPart from to) (OldPart next end) = if to == next then OldPart from end ∷ [] else
    OldPart from to ∷ OldPart next end ∷ []
joined (OldPart from to) (NewPart bytes) = OldPart from to ∷ NewPart bytes ∷ []
joined (NewPart bytes) part = NewPart bytes ∷ part ∷ []

-- Parts with one more at the end. If it touches the last of them, both become one.
abbrev pub put_part : List Part → Part → List Part
put_part [] part = part ∷ []
put_part (first ∷ []) part = joined first part
put_part (first ∷ second ∷ parts) part = first ∷ put_part (second ∷ parts) part

-- The part may be cut after so many bytes.
abbrev pub IsCutAt : Part → ℕ → Type 0
IsCutAt (OldPart from to) count = (from ≤ to) × (count ≤ to - from)
IsCutAt (NewPart bytes) count = IsCharBoundary bytes count

-- A part's ends are in order.
abbrev pub IsOrdered : Part → Type 0
IsOrdered (OldPart from to) = from ≤ to
IsOrdered (NewPart bytes) = Unit {0}

-- The parts may be cut at a byte offset: each has its ends in order, and one with the offset inside
-- may be cut there.
abbrev pub AreCut : List Part → ℕ → Type 0
AreCut [] place = Unit {0}
AreCut (part ∷ parts) place =
    IsOrdered part × (place < part_len part → IsCutAt part place)
    × (part_len part ≤ place → AreCut parts (place - part_len part))

-- Parts with others at the end. Only the first of the others can touch what comes before it.
abbrev pub put_parts : List Part → List Part → List Part
put_parts parts [] = parts
put_parts parts (first ∷ rest) = put_part parts first ++ rest

-- The parts with the bytes between two byte offsets replaced by a new text.
abbrev pub replaced_parts : List Part → ℕ → ℕ → List ℕ → List Part
replaced_parts parts start stop bytes
    = put_parts (front_parts parts start ++ new_parts bytes) (back_parts parts stop)

-- The old text from one byte offset to another, if it isn't empty.
abbrev pub old_parts : ℕ → ℕ → List Part
old_parts from to = if nat_lt from to then OldPart from to ∷ [] else []

-- The parts of a text of `len` bytes with those between two byte offsets replaced by a new text.
abbrev pub put_between_parts : ℕ → ℕ → ℕ → List ℕ → List Part
put_between_parts len start stop bytes = old_parts 0 start ++ (new_parts bytes ++ old_parts stop len)

-- The parts between two byte offsets.
abbrev pub between_parts : List Part → ℕ → ℕ → List Part
between_parts parts from to = front_parts (back_parts parts from) (to - from)

-- What a part over the text of `first` is over what `first` is over.
abbrev pub through_part : List Part → Part → List Part
through_part first (OldPart from to) = between_parts first from to
through_part first (NewPart bytes) = NewPart bytes ∷ []

-- The parts `front`, and then the parts of `second` as parts over what `first` is over.
abbrev pub put_through : List Part → List Part → List Part → List Part
put_through first front [] = front
put_through first front (part ∷ second)
    = put_through first (put_parts front (through_part first part)) second

-- The parts of `second`, which are over the text of `first`, as parts over what `first` is over.
abbrev pub through_parts : List Part → List Part → List Part
through_parts first second = put_through first [] second

-- A part of the old text may be cut out of the others.
abbrev pub IsThrough : List Part → Part → Type 0
IsThrough first (OldPart from to) = (from ≤ to) × AreCut first from
    × AreCut (back_parts first from) (to - from)
IsThrough first (NewPart bytes) = Unit {0}

-- Each of the parts may be cut out of the others.
abbrev pub AreThrough : List Part → List Part → Type 0
AreThrough first [] = Unit {0}
AreThrough first (part ∷ second) = IsThrough first part × AreThrough first second

-- `rest` are the parts after the first `passed` bytes: byte offsets from `low` on are found in them
-- as in all parts.
pub record ArePassed (parts rest : List Part) (passed low : ℕ) : Type 0 where
  pub within : passed ≤ low
  pub same : (place : ℕ) → low ≤ place → back_parts rest (place - passed) ≡ back_parts parts place
  pub cut : (place : ℕ) → low ≤ place → AreCut parts place → AreCut rest (place - passed)

-- Each part's ends are in order.
abbrev pub AreOrdered : List Part → Type 0
AreOrdered [] = Unit {0}
AreOrdered (part ∷ parts) = IsOrdered part × AreOrdered parts

-- The parts before a byte offset after `low` are `front` and those of `rest` before it.
abbrev pub AreBefore : List Part → List Part → List Part → ℕ → ℕ → Type 0
AreBefore parts front rest passed low = (place : ℕ) → low < place →
    front_parts parts place ≡ front ++ front_parts rest (place - passed)

-- How many bytes a span has.
abbrev pub span_len : Span → ℕ
span_len span = part_len (part_of span)

-- The first `index` spans have `place` bytes together.
abbrev pub IsMark : List Span → ℕ → ℕ → Type 0
IsMark spans index place = (index ≤ length spans) × (place ≡ sum_by span_len (take index spans))

-- The first part, if there is one, ends after a byte offset.
abbrev pub EndAfter : List Part → ℕ → Type 0
EndAfter [] place = Unit {0}
EndAfter (part ∷ parts) place = place < part_len part

-- The first part, if there is one, may be cut at a byte offset.
abbrev pub IsFirstCut : List Part → ℕ → Type 0
IsFirstCut [] place = Unit {0}
IsFirstCut (part ∷ parts) place = IsCutAt part place

-- What the first part has before a byte offset.
abbrev pub first_front : List Part → ℕ → List Part
first_front [] place = []
first_front (part ∷ parts) place = if place == 0 then [] else front_part part place ∷ []

-- The parts `front`, and then what the first part has after a byte offset.
abbrev pub put_first_back : List Part → List Part → ℕ → List Part
put_first_back front [] place = front
put_first_back front (part ∷ parts) place = put_part front (back_part part place)
