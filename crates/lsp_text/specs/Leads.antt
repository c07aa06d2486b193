-- Units counted byte by byte: the first byte of a character's UTF-8 counts for all its units, the
-- others for none.
use Rattle.std.specs.Prelude.{ℕ, if◌then◌else◌, nat_lt}

-- The units of the character whose UTF-8 begins with this byte, in UTF-16; 0 for a byte inside a
-- character.
abbrev pub lead_units_utf16 : ℕ → ℕ
lead_units_utf16 byte = if nat_lt byte 128 then 1 else if nat_lt byte 192 then 0 else
    if nat_lt byte 240 then 1 else 2

-- The units of the character whose UTF-8 begins with this byte, in UTF-32; 0 for a byte inside a
-- character.
abbrev pub lead_units_utf32 : ℕ → ℕ
lead_units_utf32 byte = if nat_lt byte 128 then 1 else if nat_lt byte 192 then 0 else 1
