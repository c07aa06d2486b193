-- The line starts of a text, and what it means that they are kept for it.
use Rattle.std.specs.Prelude.{◌≡◌, ◌-◌, ◌≤◌, ◌∷◌}
use Rattle.lsp_text.specs.Prelude.{ℕ, suc, false, List, length, map, filter, chars}
use Rattle.lsp_text.specs.Text.{place_of}
use Rattle.lsp_text.specs.TextLines.{starts_line, splits_crlf, numbers_from}

-- The indexes after `low`, up to `high`, that start a line.
abbrev pub starts_between : List ℕ → ℕ → ℕ → List ℕ
starts_between text low high = filter (starts_line text) (numbers_from (suc low) (high - low))

-- The line starts as indexes, in order: 0, and each index that starts a line.
abbrev pub line_starts : List ℕ → List ℕ
line_starts text = 0 ∷ starts_between text 0 (length text)

-- The byte offsets of the line starts.
abbrev pub start_places : List ℕ → List ℕ
start_places text = map (place_of text) (line_starts text)

-- The lines are those of the text with these bytes, and there are at most 2,147,483,648 bytes.
pub record AreLinesOf (lines bytes : List ℕ) : Type 0 where
  pub starts : lines ≡ start_places (chars bytes)
  pub size : length bytes ≤ 2147483648

-- The byte offset is one that a position can denote: that of an index which splits no CRLF.
abbrev pub IsPlace : List ℕ → ℕ → Type 0
IsPlace text place = (k : ℕ) × (k ≤ length text) × (splits_crlf text k ≡ false)
    × (place_of text k ≡ place)
