-- A part of a text has at most as many units as the text has bytes.
use Rattle.lsp_text.proofs.Prelude.{ℕ, ◌≡◌, ◌-◌, ◌≤◌, List, length, drop, encode_utf8_all, arith, len_utf8, sum_by-le-sum_by, sum_by-take-drop, sum_by-take-le, utf16_bounds, utf32_bounds, utf8_bounds, Encoding, Utf8, Utf16, Utf32, units_between, units_in}
use Rattle.lsp_text.proofs.Counting.LeadLemmas.{utf8_units}

units_of_bytes : (encoding : Encoding) (c : ℕ) → units_in encoding c ≤ len_utf8 c
units_of_bytes Utf8 c = (utf8_bounds c).1
units_of_bytes Utf16 c = (utf16_bounds c).1
units_of_bytes Utf32 c = (utf32_bounds c).1

-- No part of a text has more units than the text has bytes.
pub units_total : (encoding : Encoding) (text : List ℕ) (from to : ℕ) → units_between (units_in encoding) text from to
    ≤ length (encode_utf8_all text)
units_total encoding text from to =
    let units = units_in encoding in
    omega (
      arith,
      sum_by-take-le units (drop from text) (to - from),
      sum_by-take-drop units text from,
      sum_by-le-sum_by units len_utf8 text (units_of_bytes encoding),
      utf8_units text,
    )
