-- Texts that differ by line ends, the last line end and a byte order mark alone. Texts are bytes.
use Rattle.std.specs.Prelude.{ℕ, ◌-◌, Bool, true, false, not, ◌&&◌, ◌||◌, ◌==◌, if◌then◌else◌, length, drop, take, List, [], ◌∷◌}
use Rattle.std.specs.Str.{bytes_eq}
use Rattle.line_diff.specs.Common.{common_front}

-- A byte order mark.
abbrev pub mark : List ℕ
mark = 239 ∷ 187 ∷ 191 ∷ []

-- Does a text begin with one?
abbrev pub has_mark : List ℕ → Bool
has_mark text = bytes_eq (take 3 text) mark

-- Have both texts one, or neither?
abbrev pub have_same_marks : List ℕ → List ℕ → Bool
have_same_marks text other = if has_mark text then has_mark other else not (has_mark other)

-- The text after it.
abbrev pub without_mark : List ℕ → List ℕ
without_mark text = if has_mark text then drop 3 text else text

-- A text with a line feed for each line end. `after`: is the byte before it a carriage return?
abbrev pub with_feeds : Bool → List ℕ → List ℕ
with_feeds after [] = []
with_feeds after (byte ∷ bytes) =
    if byte == 13 then 10 ∷ with_feeds true bytes
    else if after && byte == 10 then with_feeds false bytes
    else byte ∷ with_feeds false bytes

-- Does a text end with this byte?
abbrev pub ends_with_byte : ℕ → List ℕ → Bool
ends_with_byte last text = bytes_eq (drop (length text - 1) text) (last ∷ [])

-- Does a text end with a line end?
abbrev pub has_last_end : List ℕ → Bool
has_last_end text = ends_with_byte 10 text || ends_with_byte 13 text

-- A text without that byte at its end.
abbrev pub without_last_byte : ℕ → List ℕ → List ℕ
without_last_byte last text =
    if ends_with_byte last text then take (length text - 1) text else text

-- A text of which line ends, the last line end and a byte order mark don't count.
abbrev pub loose : List ℕ → List ℕ
loose text = without_last_byte 10 (with_feeds false (without_mark text))

-- Are two texts equal but for these?
unfoldable pub are_alike : List ℕ → List ℕ → Bool
are_alike text other = bytes_eq (loose text) (loose other)

-- A text without its byte order mark and its last line end.
abbrev pub without_last_end : List ℕ → List ℕ
without_last_end text = without_last_byte 13 (without_last_byte 10 (without_mark text))

-- Have two such texts the same line ends, but for a last one that one of them alone has?
abbrev pub have_same_ends : List ℕ → List ℕ → Bool
have_same_ends text other =
    if has_last_end text && has_last_end other
    then bytes_eq (without_mark text) (without_mark other)
    else bytes_eq (without_last_end text) (without_last_end other)

-- The index in a text of the first line end that another one has in another form. Where that one has
-- a line feed after a carriage return that both have, this is the carriage return's.
unfoldable pub first_end : List ℕ → List ℕ → ℕ
first_end text other =
    if ends_with_byte 13 (take (common_front text other) text)
    && bytes_eq (take 1 (drop (common_front text other) other)) (10 ∷ [])
    then common_front text other - 1 else common_front text other
