-- Positions (LSP 3.17, Position), over a text and a function that says how many units a character
-- has.
use Rattle.std.specs.Prelude.{◌==◌, if◌then◌else◌}
use Rattle.lsp_text.specs.Prelude.{ℕ, nat_lt, nat_le, List, length, Option, Some, find, Position}
use Rattle.lsp_text.specs.TextLines.{line_at, line_ends, line_content, line_start, line_stop}
use Rattle.lsp_text.specs.Units.{units_between}

-- The exact position of an index that splits no CRLF: its line, and the units from that line's
-- start to the index.
abbrev pub exact_position : (ℕ → ℕ) → List ℕ → ℕ → Position
exact_position units text k =
    record {
      line = line_at text k;
      character = units_between units text (line_start text (line_at text k)) k;
    }

-- The index that a position denotes. It is the end of the text, if the text has no such line. It is
-- the end of the line's content, if that has no more units than the position's character. Else it
-- is the index of the content with exactly so many units before it in the line, if there is one.
abbrev pub denoted : (ℕ → ℕ) → List ℕ → Position → Option ℕ
denoted units text p =
    if nat_lt (line_ends text) p.line then Some (length text)
    else if nat_le (units_between units text (line_start text p.line) (line_stop text p.line))
    p.character then Some (line_stop text p.line)
    else find (λ k. units_between units text (line_start text p.line) k == p.character)
    (line_content text p.line)
