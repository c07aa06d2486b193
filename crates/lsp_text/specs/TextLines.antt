-- The lines of a text (LSP 3.17, Position: '\n', '\r\n' and '\r' end a line).
use Rattle.std.specs.Prelude.{ℕ, zero, suc, Bool, false, not, ◌&&◌, ◌||◌, if◌then◌else◌, ◌==◌, List, [], ◌∷◌, length, slice_index, filter}

-- The code of '\n'.
abbrev pub line_feed : ℕ
line_feed = 10

-- The code of '\r'.
abbrev pub carriage_return : ℕ
carriage_return = 13

-- An index starts a line if a line feed is before it, or a carriage return with no line feed after
-- it. The first line starts at 0, which isn't counted here.
abbrev pub starts_line : List ℕ → ℕ → Bool
starts_line text zero = false
starts_line text (suc k) =
    (slice_index text k == line_feed)
    || ((slice_index text k == carriage_return) && not (slice_index text (suc k) == line_feed))

-- An index splits a CRLF if it is between a carriage return and a line feed.
abbrev pub splits_crlf : List ℕ → ℕ → Bool
splits_crlf text zero = false
splits_crlf text (suc k) = (slice_index text k == carriage_return)
    && (slice_index text (suc k) == line_feed)

-- The line of an index: how many indexes up to it start one.
abbrev pub line_at : List ℕ → ℕ → ℕ
line_at text zero = 0
line_at text (suc k) = if starts_line text (suc k) then suc (line_at text k) else line_at text k

-- How many line ends a text has. It has one line more.
abbrev pub line_ends : List ℕ → ℕ
line_ends text = line_at text (length text)

-- `count` numbers, from `first` on.
abbrev pub numbers_from : ℕ → ℕ → List ℕ
numbers_from first zero = []
numbers_from first (suc count) = first ∷ numbers_from (suc first) count

-- The first of a list, or a default.
abbrev pub first_or : ℕ → List ℕ → ℕ
first_or default [] = default
first_or default (k ∷ ks) = k

-- The last of a list, or a default.
abbrev pub last_or : ℕ → List ℕ → ℕ
last_or default [] = default
last_or default (k ∷ ks) = last_or k ks

-- An index belongs to the content of a line, if it is of that line and splits no CRLF.
abbrev pub is_in_content : List ℕ → ℕ → ℕ → Bool
is_in_content text line k = (line_at text k == line) && not (splits_crlf text k)

-- The content of a line: its indexes, in order, without those inside its line end.
abbrev pub line_content : List ℕ → ℕ → List ℕ
line_content text line = filter (is_in_content text line) (numbers_from 0 (suc (length text)))

-- The first index of a line's content (0 if the text has no such line).
abbrev pub line_start : List ℕ → ℕ → ℕ
line_start text line = first_or 0 (line_content text line)

-- The last index of a line's content, which is before the line end (0 if the text has no such
-- line).
abbrev pub line_stop : List ℕ → ℕ → ℕ
line_stop text line = last_or 0 (line_content text line)
