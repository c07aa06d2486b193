-- Where a text is cut into blocks.
use Rattle.std.specs.Prelude.{ℕ, ◌≡◌, ◌≢◌, ◌+◌, ◌-◌, ◌<◌, ◌≤◌, List, [], ◌∷◌, length, slice_index}
use Rattle.lsp_text.specs.TextLines.{carriage_return, line_feed}
use Rattle.lsp_buffer.specs.Blocks.{IsFull}

-- Each of these blocks is full.
abbrev pub AreFull : List (List ℕ) → Type 0
AreFull [] = Unit {0}
AreFull (block ∷ blocks) = IsFull block × AreFull blocks

-- The byte with this index is a line feed.
pub record IsFeed (bytes : List ℕ) (at : ℕ) : Type 0 where
  pub within : at < length bytes
  pub feed : slice_index bytes at ≡ line_feed

-- A text can be cut here: the byte before the offset is no carriage return, and both parts have
-- enough bytes for a block.
pub record IsCut (bytes : List ℕ) (cut : ℕ) : Type 0 where
  pub enough : 1024 ≤ cut
  pub left : cut + 1024 ≤ length bytes
  pub clear : slice_index bytes (cut - 1) ≢ carriage_return
