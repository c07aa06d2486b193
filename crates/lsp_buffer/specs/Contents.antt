-- Where the content of a line is among the bytes of a text.
use Rattle.std.specs.Prelude.{ℕ, ◌≡◌, ◌≤◌, List}
use Rattle.std.specs.Str.{chars, IsCharBoundary}
use Rattle.std.specs.declared.ops.Range.{Range}
use Rattle.lsp_text.specs.Text.{place_of}
use Rattle.lsp_text.specs.TextLines.{line_start, line_stop}

-- The byte offsets at which a line starts, and at which it ends before its line end. The text can
-- be sliced there.
pub record IsContentOf (text : List ℕ) (line : ℕ) (range : Range ℕ) : Type 0 where
  pub start : range.start ≡ place_of (chars text) (line_start (chars text) line)
  pub end : range.end ≡ place_of (chars text) (line_stop (chars text) line)
  pub order : range.start ≤ range.end
  pub at_start : IsCharBoundary text range.start
  pub at_end : IsCharBoundary text range.end
