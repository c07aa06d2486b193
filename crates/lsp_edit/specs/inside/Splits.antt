-- Spans in two rows, before a split and after it, and what a change makes of them.
use Rattle.std.specs.Prelude.{ℕ, ◌≡◌, ◌++◌, List, reverse, sum_by}
use Rattle.lsp_edit.specs.declared.pieces.split.SplitSpans.{SplitSpans}
use Rattle.lsp_edit.specs.Parts.{Part, new_parts, part_len, parts_of}
use Rattle.lsp_edit.specs.inside.Parts.{back_parts, front_parts}

-- The parts before the split.
abbrev pub before_split : SplitSpans → List Part
before_split split = parts_of split.front.items

-- The parts after it.
abbrev pub after_split : SplitSpans → List Part
after_split split = reverse (parts_of split.back.items)

-- All parts.
abbrev pub split_parts : SplitSpans → List Part
split_parts split = before_split split ++ after_split split

-- These are the parts, and the number of bytes before the split is right.
pub record HasPassed (split : SplitSpans) (parts : List Part) : Type 0 where
  pub parts_are : split_parts split ≡ parts
  pub passed_is : split.passed ≡ sum_by part_len (before_split split)

-- The parts are split at a byte offset.
pub record IsSplitAt (parts : List Part) (offset : ℕ) (split : SplitSpans) : Type 0 where
  pub front_is : before_split split ≡ front_parts parts offset
  pub back_is : after_split split ≡ back_parts parts offset
  pub passed_is : split.passed ≡ sum_by part_len (before_split split)

-- The parts with `count` bytes from a byte offset on replaced by a new text.
abbrev pub spliced_parts : List Part → ℕ → ℕ → List ℕ → List Part
spliced_parts parts start count bytes
    = front_parts parts start ++ (new_parts bytes ++ back_parts (back_parts parts start) count)
