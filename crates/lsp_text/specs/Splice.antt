-- A text after an edit, beside the lines of the text before it.
use Rattle.std.specs.Prelude.{◌≡◌, ◌+◌, ◌≤◌}
use Rattle.lsp_text.specs.Prelude.{ℕ, List, length, take, drop, IsUtf8}
use Rattle.lsp_text.specs.LineStarts.{AreLinesOf}

-- `bytes` is `old` with the bytes from `from` to `to` replaced by `len` others.
pub record IsReplaced (old bytes : List ℕ) (from to len : ℕ) : Type 0 where
  pub order : from ≤ to
  pub within : to ≤ length old
  pub inserted : from + len ≤ length bytes
  pub front : take from bytes ≡ take from old
  pub back : drop (from + len) bytes ≡ drop to old

-- The lines are those of a text that such an edit changed into `bytes`.
pub record IsSpliced (lines bytes : List ℕ) (from to len : ℕ) : Type 0 where
  pub old : List ℕ
  pub utf8 : IsUtf8 old
  pub indexed : AreLinesOf lines old
  pub replaced : IsReplaced old bytes from to len
