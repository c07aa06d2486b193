-- Small texts, and what the definitions say of them.
use Rattle.std.specs.Prelude.{◌≡◌, ◌∷◌}
use Rattle.lsp_text.specs.Prelude.{ℕ, true, List, [], Some, None, Position, Utf8, Utf16, Utf32}
use Rattle.lsp_text.specs.Text.{place_of}
use Rattle.lsp_text.specs.TextLines.{splits_crlf}
use Rattle.lsp_text.specs.LineStarts.{line_starts, IsPlace}
use Rattle.lsp_text.specs.Units.{units_in}
use Rattle.lsp_text.specs.Positions.{exact_position, denoted}

-- A position, in short.
abbrev pub position : ℕ → ℕ → Position
position line character = record { line = line; character = character }

-- "a\rX\nb" has three lines. Without the X it is "a\r\nb", which has two.
abbrev pub three_lines : List ℕ
three_lines = 97 ∷ 13 ∷ 88 ∷ 10 ∷ 98 ∷ []

-- "a\r\nb".
abbrev pub two_lines : List ℕ
two_lines = 97 ∷ 13 ∷ 10 ∷ 98 ∷ []

-- "a\r", which has two lines.
abbrev pub one_return : List ℕ
one_return = 97 ∷ 13 ∷ []

-- "a\n", which has two lines.
abbrev pub one_feed : List ℕ
one_feed = 97 ∷ 10 ∷ []

-- U+1F600, which has 4 bytes, 2 code units of UTF-16 and 1 scalar value.
abbrev pub smile : List ℕ
smile = 128512 ∷ []

-- What the definitions say of these texts.
pub record HoldsOnExamples : Type 0 where
  pub three_starts : line_starts three_lines ≡ 0 ∷ 2 ∷ 4 ∷ []
  pub two_starts : line_starts two_lines ≡ 0 ∷ 3 ∷ []
  pub three_middle : denoted (units_in Utf16) three_lines (position 1 0) ≡ Some 2
  pub three_middle_end : denoted (units_in Utf16) three_lines (position 1 1) ≡ Some 3
  pub three_last : exact_position (units_in Utf16) three_lines 4 ≡ position 2 0
  -- A character past a line's end denotes its end, and no position denotes the index inside the
  -- CRLF.
  pub two_past : denoted (units_in Utf16) two_lines (position 0 9) ≡ Some 1
  pub two_second : denoted (units_in Utf16) two_lines (position 1 0) ≡ Some 3
  pub two_inside : splits_crlf two_lines 2 ≡ true
  -- A position can denote the index after the CRLF, and none the index inside it.
  pub two_place : IsPlace two_lines 3
  pub two_no_place : IsPlace two_lines 2 → ⊥
  -- A carriage return at the end of the text ends a line, and an empty one follows.
  pub return_starts : line_starts one_return ≡ 0 ∷ 2 ∷ []
  pub return_second : denoted (units_in Utf16) one_return (position 1 0) ≡ Some 2
  pub return_last : exact_position (units_in Utf16) one_return 2 ≡ position 1 0
  pub return_place : IsPlace one_return 2
  pub smile_place : place_of smile 1 ≡ 4
  pub smile_after : IsPlace smile 4
  pub smile_inside : IsPlace smile 2 → ⊥
  pub smile_utf8_one : denoted (units_in Utf8) smile (position 0 1) ≡ None
  pub smile_utf8_two : denoted (units_in Utf8) smile (position 0 2) ≡ None
  pub smile_utf8_three : denoted (units_in Utf8) smile (position 0 3) ≡ None
  pub smile_utf16_one : denoted (units_in Utf16) smile (position 0 1) ≡ None
  pub smile_utf8_after : denoted (units_in Utf8) smile (position 0 4) ≡ Some 1
  pub smile_utf16_after : denoted (units_in Utf16) smile (position 0 2) ≡ Some 1
  pub smile_utf32_after : denoted (units_in Utf32) smile (position 0 1) ≡ Some 1
  pub smile_utf8_past : denoted (units_in Utf8) smile (position 0 99) ≡ Some 1
  pub smile_utf16_past : denoted (units_in Utf16) smile (position 0 99) ≡ Some 1
  pub smile_utf32_past : denoted (units_in Utf32) smile (position 0 99) ≡ Some 1
  pub smile_utf8_exact : exact_position (units_in Utf8) smile 1 ≡ position 0 4
  pub smile_utf16_exact : exact_position (units_in Utf16) smile 1 ≡ position 0 2
  pub smile_utf32_exact : exact_position (units_in Utf32) smile 1 ≡ position 0 1
  -- After the last line end is an empty line. A position past it denotes the end of the text.
  pub feed_second : denoted (units_in Utf16) one_feed (position 1 0) ≡ Some 2
  pub feed_past : denoted (units_in Utf16) one_feed (position 7 3) ≡ Some 2
