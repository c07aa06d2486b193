-- What only proofs and private contracts use of `Splice`.
use Rattle.std.specs.Prelude.{ℕ, ◌≡◌, List}
use Rattle.lsp_text.specs.LineStarts.{line_starts}
use Rattle.lsp_text.specs.Splice.{IsReplaced}

-- The starts are the line starts of some old bytes, and `bytes` are these with those from `from` to
-- `to` replaced by `len` others.
pub record Replaces (starts bytes : List ℕ) (from to len : ℕ) : Type 0 where
  pub old : List ℕ
  pub starts_are : starts ≡ line_starts old
  pub replaced : IsReplaced old bytes from to len
