-- The lines of a text (LSP 3.17, Text Documents: '\n', '\r\n' and '\r' end a line). Texts are bytes.
use Rattle.std.specs.Prelude.{ℕ, Bool, false, not, ◌&&◌, ◌||◌, ◌==◌, if◌then◌else◌, List, [], ◌∷◌, ◌++◌}

-- Does a text begin with a line feed?
abbrev pub begins_with_feed : List ℕ → Bool
begins_with_feed [] = false
begins_with_feed (byte ∷ bytes) = byte == 10

-- Does this byte end a line, before these?
abbrev pub ends_line : ℕ → List ℕ → Bool
ends_line byte bytes = byte == 10 || (byte == 13 && not (begins_with_feed bytes))

-- A line, unless nothing is in it.
abbrev pub line_unless_empty : List ℕ → List (List ℕ)
line_unless_empty [] = []
line_unless_empty (byte ∷ bytes) = (byte ∷ bytes) ∷ []

-- The lines of bytes before which a line began with these.
abbrev pub lines_begun : List ℕ → List ℕ → List (List ℕ)
lines_begun line [] = line_unless_empty line
lines_begun line (byte ∷ bytes) = if ends_line byte bytes
    then (line ++ byte ∷ []) ∷ lines_begun [] bytes
    else lines_begun (line ++ byte ∷ []) bytes

-- The lines of a text, each with its line end. What comes after the last line end is a line if it
-- isn't empty.
abbrev pub lines_of : List ℕ → List (List ℕ)
lines_of text = lines_begun [] text
