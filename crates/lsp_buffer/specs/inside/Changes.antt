-- A change of a text in blocks.
use Rattle.std.specs.Prelude.{ℕ, ◌≡◌, ◌+◌, ◌<◌, ◌≤◌, List, [], ◌++◌, length, take, drop, get_or}
use Rattle.std.specs.List.{concat, replace_range}
use Rattle.std.specs.Str.{IsCharBoundary}
use Rattle.lsp_buffer.specs.declared.text_buffer.change.BlockRange.{BlockRange}
use Rattle.lsp_buffer.specs.Blocks.{AreBlocks, IsFull}

-- The text that a change leaves of its blocks.
abbrev pub text_left : List (List ℕ) → BlockRange → List ℕ → List ℕ
text_left blocks range new = take range.start (get_or blocks range.first [])
    ++ (new ++ drop range.end (get_or blocks range.last []))

-- The whole text after a change.
abbrev pub text_after : List (List ℕ) → BlockRange → List ℕ → List ℕ
text_after blocks range new = concat (take range.first blocks)
    ++ (text_left blocks range new ++ concat (drop (range.last + 1) blocks))

-- The text in blocks can be changed: the range is one of characters, it ends before its last block
-- does, if that isn't the last of all, and the changed text isn't too long.
pub record IsChange (blocks : List (List ℕ)) (range : BlockRange) (new : List ℕ) : Type 0 where
  pub are : AreBlocks blocks
  pub order : range.first ≤ range.last
  pub within : range.last < length blocks
  pub at_start : IsCharBoundary (get_or blocks range.first []) range.start
  pub at_end : IsCharBoundary (get_or blocks range.last []) range.end
  pub before_end : range.last + 1 < length blocks → range.end < length (get_or blocks range.last [])
  pub forward : range.first ≡ range.last → range.start ≤ range.end
  pub size : length (concat blocks) ≤ 2147483648
  pub room : length (text_after blocks range new) ≤ 2147483648

-- The part of a text in blocks from one byte offset to another: what takes its place takes that of
-- these bytes.
pub record IsRangeOf (blocks : List (List ℕ)) (start stop : ℕ) (range : BlockRange) : Type 0 where
  pub change : (new : List ℕ) → length (replace_range (concat blocks) start stop new) ≤ 2147483648
      → IsChange blocks range new
  pub text : (new : List ℕ)
      → text_after blocks range new ≡ replace_range (concat blocks) start stop new

-- A text of so many bytes has a next block, with which it is joined.
abbrev pub JoinsNext : List (List ℕ) → ℕ → ℕ → Type 0
JoinsNext blocks past len = (past < length blocks) × (len < 1024)

-- A change stays inside a block, which gets neither too long nor too short by it.
abbrev pub StaysInside : List (List ℕ) → BlockRange → List ℕ → Type 0
StaysInside blocks range new = (range.first ≡ range.last)
    × (length (get_or blocks range.first []) + length new ≤ 8192)
    × (JoinsNext blocks (range.last + 1) (length (text_left blocks range new)) → ⊥)

-- A text that takes the place of the blocks from `range.first` to `past`, so that the whole text is
-- the changed one.
pub record IsTaken (blocks : List (List ℕ)) (range : BlockRange) (new text : List ℕ) (past : ℕ)
    : Type 0 where
  pub order : range.first < past
  pub within : past ≤ length blocks
  pub whole : concat (take range.first blocks) ++ (text ++ concat (drop past blocks))
      ≡ text_after blocks range new
  pub full : past < length blocks → IsFull text
