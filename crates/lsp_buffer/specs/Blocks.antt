-- A text in blocks. Each but the last ends with a character that isn't a carriage return, so no
-- CRLF is in two of them. Each but the last has 1024 bytes or more, so there are few.
use Rattle.std.specs.Prelude.{ℕ, zero, suc, ◌≡◌, ◌≢◌, ◌-◌, ◌*◌, ◌<◌, ◌≤◌, true, List, [], ◌∷◌, length, take, drop, get_or, slice_index}
use Rattle.std.specs.List.{concat}
use Rattle.std.specs.Str.{is_utf8, chars}
use Rattle.lsp_text.specs.declared.encoding.Encoding.TheVariants.{Utf8, Utf16, Utf32}
use Rattle.lsp_text.specs.TextLines.{line_ends, carriage_return}
use Rattle.lsp_text.specs.Units.{units_in}
use Rattle.lsp_text.specs.Positions.{exact_position}
use Rattle.lsp_buffer.specs.declared.counts.Counts.{Counts}

-- The last byte is no carriage return.
pub record EndsClear (bytes : List ℕ) : Type 0 where
  pub some : 0 < length bytes
  pub clear : slice_index bytes (length bytes - 1) ≢ carriage_return

-- A block that isn't the last: a text that ends with no carriage return, of 1024 bytes or more.
pub record IsFull (block : List ℕ) : Type 0 where
  pub utf8 : is_utf8 block ≡ true
  pub ends : EndsClear block
  pub enough : 1024 ≤ length block

-- There is at least one block, each is a text, and each but the last is full.
abbrev pub AreBlocks : List (List ℕ) → Type 0
AreBlocks [] = ⊥
AreBlocks (block ∷ []) = is_utf8 block ≡ true
AreBlocks (block ∷ next ∷ blocks) = IsFull block × AreBlocks (next ∷ blocks)

-- How many line ends a block has.
abbrev pub block_ends : List ℕ → ℕ
block_ends block = line_ends (chars block)

-- The units of a block's last line, as far as it is in the block.
abbrev pub head_of : (ℕ → ℕ) → List ℕ → ℕ
head_of units block = (exact_position units (chars block) (length (chars block))).character

-- Of a line of a text that begins inside a longer line: the units before the text in that line.
-- They count for the text's line 0 alone.
abbrev pub carried : ℕ → ℕ → ℕ
carried zero head = head
carried (suc line) head = 0

-- What a text counts: its bytes, its line ends, and the units of its last line in each encoding.
abbrev pub counts_of : List ℕ → Counts
counts_of text = record {
  len = length text;
  ends = block_ends text;
  utf8 = head_of (units_in Utf8) text;
  utf16 = head_of (units_in Utf16) text;
  utf32 = head_of (units_in Utf32) text;
}

-- Some groups of 32 blocks each, from the first block on, before the last block: what each counts.
pub record AreGroups (blocks : List (List ℕ)) (groups : List Counts) : Type 0 where
  pub within : 32 * length groups < length blocks
  pub counts : (group : ℕ) → group < length groups → get_or groups group (counts_of [])
      ≡ counts_of (concat (take 32 (drop (32 * group) blocks)))

-- Blocks of a text that isn't too long, with their groups.
pub record IsTextBuffer (blocks : List (List ℕ)) (groups : List Counts) : Type 0 where
  pub are : AreBlocks blocks
  pub size : length (concat blocks) ≤ 2147483648
  pub groups_are : AreGroups blocks groups
