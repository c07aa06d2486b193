-- Which lines of a text are too long, if a character `c` has `units c` units.
use Rattle.std.specs.Prelude.{ℕ, ◌+◌, Bool, nat_lt, nat_le, List, filter}
use Rattle.lsp_text.specs.declared.position.Position.{Position}
use Rattle.lsp_text.specs.declared.position.Range.{Range}
use Rattle.lsp_text.specs.Positions.{exact_position}
use Rattle.lsp_text.specs.TextLines.{last_or, line_content, line_ends, line_start, line_stop, numbers_from}
use Rattle.lsp_text.specs.Units.{units_between}

-- How many units a line may have.
abbrev pub limit : ℕ
limit = 100

-- A line is long if its content has more units than the limit.
abbrev pub is_long : (ℕ → ℕ) → List ℕ → ℕ → Bool
is_long units text line
    = nat_lt limit (units_between units text (line_start text line) (line_stop text line))

-- The long lines of a text, in order.
abbrev pub long_lines : (ℕ → ℕ) → List ℕ → List ℕ
long_lines units text = filter (is_long units text) (numbers_from 0 (line_ends text + 1))

-- The last index of a line's content that has at most `limit` units before it in the line.
abbrev pub last_within : (ℕ → ℕ) → List ℕ → ℕ → ℕ
last_within units text line
    = last_or 0 (filter (λ k. nat_le (units_between units text (line_start text line) k) limit)
    (line_content text line))

-- The exact position of the end of a line's content.
abbrev pub line_end : (ℕ → ℕ) → List ℕ → ℕ → Position
line_end units text line = exact_position units text (line_stop text line)

-- What of a long line is over the limit, in exact positions: from that index to the line's end.
abbrev pub over_limit : (ℕ → ℕ) → List ℕ → ℕ → Range
over_limit units text line =
    record {
      start = exact_position units text (last_within units text line);
      stop = line_end units text line;
    }
