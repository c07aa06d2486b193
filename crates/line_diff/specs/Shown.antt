-- A line, with what can't be seen in it.
use Rattle.std.specs.Prelude.{ℕ, ◌-◌, Bool, not, nat_lt, ◌&&◌, ◌||◌, ◌==◌, if◌then◌else◌, length, drop, take, List, [], Option, Some, None, ◌++◌, codes, flat_map}
use Rattle.std.specs.Option.{unwrap_or}
use Rattle.std.specs.Char.{encode_utf8, is_control, is_whitespace}
use Rattle.std.specs.Char.Escape.{escape_unicode}
use Rattle.std.specs.Int.{is_in_range}
use Rattle.std.specs.Str.{chars, encode_utf8_all}

-- The short escape of a character in a string. Most have none.
unfoldable pub sign_of : ℕ → Option (List ℕ)
sign_of character =
    if character == 10 then Some (codes "\\n")
    else if character == 13 then Some (codes "\\r")
    else if character == 9 then Some (codes "\\t")
    else if character == 34 then Some (codes "\\\"")
    else if character == 92 then Some (codes "\\\\")
    else if character == 0 then Some (codes "\\0")
    else None

-- Is a character one that Unicode calls default ignorable, the empty pattern of Braille, or a format
-- character of annotations or of hieroglyphs?
unfoldable pub is_ignorable : ℕ → Bool
is_ignorable c =
    c == 0xad || c == 0x34f || c == 0x61c || is_in_range 0x115f 0x1160 c
    || is_in_range 0x17b4 0x17b5 c || is_in_range 0x180b 0x180f c || is_in_range 0x200b 0x200f c
    || is_in_range 0x202a 0x202e c || is_in_range 0x2060 0x206f c || c == 0x2800 || c == 0x3164
    || is_in_range 0xfe00 0xfe0f c || c == 0xfeff || c == 0xffa0 || is_in_range 0xfff0 0xfffb c
    || is_in_range 0x13430 0x1343f c || is_in_range 0x1bca0 0x1bca3 c
    || is_in_range 0x1d173 0x1d17a c || is_in_range 0xe0000 0xe0fff c

-- Does a character show nothing but a gap, turn text around or control a terminal? The space
-- doesn't count.
unfoldable pub is_unseen : ℕ → Bool
is_unseen c = not (c == 32) && (is_control c || is_whitespace c || is_ignorable c)

-- A character, or the escape that stands for it: a short one, or its number, as in `\u{a0}`.
unfoldable pub shown_char : ℕ → List ℕ
shown_char character = unwrap_or (sign_of character)
    (if is_unseen character then encode_utf8_all (escape_unicode character) else encode_utf8 character)

-- Characters in quotes, with what can't be seen in them.
abbrev pub quoted : List ℕ → List ℕ
quoted characters = codes "\"" ++ flat_map shown_char characters ++ codes "\""

-- A line in quotes.
abbrev pub shown : List ℕ → List ℕ
shown line = quoted (chars line)

-- Dots where characters of a line are left out.
abbrev pub dots : Bool → List ℕ
dots are_left_out = if are_left_out then codes ".." else []

-- Of a line's characters 160 from an index on, in quotes.
abbrev pub shown_part : ℕ → List ℕ → List ℕ
shown_part start characters =
    dots (nat_lt 0 start) ++ quoted (take 160 (drop start characters))
    ++ dots (nat_lt 160 (length (drop start characters)))

-- A line's characters in quotes; of more than 200, those from 40 before an index on.
unfoldable pub shown_around : ℕ → List ℕ → List ℕ
shown_around index characters = if nat_lt 200 (length characters)
    then shown_part (index - 40) characters else quoted characters
