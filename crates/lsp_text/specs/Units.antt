-- How many units a character has (LSP 3.17, PositionEncodingKind).
use Rattle.std.specs.Prelude.{◌-◌, if◌then◌else◌}
use Rattle.lsp_text.specs.Prelude.{ℕ, nat_lt, List, codes, take, drop, sum_by, Option, Some, None, len_utf8, bytes_eq, Encoding, Utf8, Utf16, Utf32}

-- How many units a character has: 1 to 4 bytes in UTF-8, 1 or 2 code units in UTF-16, 1 in UTF-32.
abbrev pub units_in : Encoding → ℕ → ℕ
units_in Utf8 c = len_utf8 c
units_in Utf16 c = if nat_lt c 0x1_0000 then 1 else 2
units_in Utf32 c = 1

-- The units of the characters from one index to another, if a character `c` has `units c` of them.
abbrev pub units_between : (ℕ → ℕ) → List ℕ → ℕ → ℕ → ℕ
units_between units text from to = sum_by units (take (to - from) (drop from text))

-- The protocol's name of an encoding.
abbrev pub name_of : Encoding → List ℕ
name_of Utf8 = codes "utf-8"
name_of Utf16 = codes "utf-16"
name_of Utf32 = codes "utf-32"

-- The encoding with this name, which is compared byte for byte.
abbrev pub encoding_named : List ℕ → Option Encoding
encoding_named name =
    if bytes_eq name (codes "utf-8") then Some Utf8
    else if bytes_eq name (codes "utf-16") then Some Utf16
    else if bytes_eq name (codes "utf-32") then Some Utf32
    else None
