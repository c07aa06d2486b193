-- A text is a list of scalar values (LSP 3.17, Position). Its indexes are the numbers from 0 to its
-- length: one before each character, and one after the last.
use Rattle.std.specs.Prelude.{ℕ, List, length, take, encode_utf8_all}

-- The byte offset of an index: how many bytes of UTF-8 are before it.
abbrev pub place_of : List ℕ → ℕ → ℕ
place_of text index = length (encode_utf8_all (take index text))
