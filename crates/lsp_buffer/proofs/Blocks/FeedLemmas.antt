-- The end of a block: its place, and a line feed there.
use Rattle.lsp_buffer.proofs.Prelude.{ℕ, zero, suc, ◌≡◌, ◌+◌, ◌-◌, ◌<◌, ◌≤◌, true, List, [], ◌∷◌, ◌++◌, length, take, drop, get_or, slice_index, sum_by, refl, sym, ap, ◌∙◌, arith, encode_utf8_all, chars, IsUtf8, encode, cases_lt, length-append, get_or-append_right, append-nil, encodes-chars, encode_ascii, length-encode, len_utf8_bounds, place_of, starts_line, line_ends, line_start, line_feed, IsPlace, units_between, splits_none_past, place_end, head_of, common_steps}
use Rattle.lsp_text.proofs.TextLines.StartLemmas.{AllHigh, encode_high}
use Rattle.lsp_text.proofs.TextLines.StartRowLemmas.{end_starts}
use Rattle.lsp_buffer.proofs.Blocks.SeamLemmas.{head}
use Rattle.std.proofs.lemmas.Grind.{common_steps}

-- The last one is a line feed.
record EndsLine (bytes : List ℕ) : Type 0 where
  pub some : 0 < length bytes
  pub feed : slice_index bytes (length bytes - 1) ≡ line_feed

ends_join : (a b : List ℕ) → EndsLine b → EndsLine (a ++ b)
ends_join a b feed = record {
  some = omega (arith, length-append a b, feed.some);
  feed = grind (arith, common_steps, length-append, get_or-append_right);
}

ends_tail : (a b : List ℕ) → 0 < length b → EndsLine (a ++ b) → EndsLine b
ends_tail a b some feed = record { some = some; feed = grind (arith, common_steps, length-append, get_or-append_right) }

high_get : (bytes : List ℕ) (k : ℕ) → AllHigh bytes → k < length bytes → 128 ≤ get_or bytes k 0
high_get [] k all h = absurd (omega arith)
high_get (b ∷ bytes) zero all h = all.0
high_get (b ∷ bytes) (suc k) all h = high_get bytes k all.1 (omega arith)

last_char : (x : ℕ) → EndsLine (encode x) → x ≡ 10
last_char x feed = grind (arith, common_steps, encode_ascii, high_get, encode, encode_high, cases_lt)

feed_text : (text : List ℕ) → EndsLine (encode_utf8_all text) → EndsLine text
feed_text [] feed = absurd (omega (arith, feed.some))
feed_text (x ∷ []) feed = grind (arith, common_steps, encode, append-nil, last_char)
feed_text (x ∷ y ∷ text) feed =
    let some : 0 < length (encode_utf8_all (y ∷ text)) =
    omega (arith, length-append (encode y) (encode_utf8_all text), length-encode y, (len_utf8_bounds y).0) in
    ends_join (x ∷ []) (y ∷ text) (feed_text (y ∷ text) (ends_tail (encode x) (encode_utf8_all (y ∷ text)) some feed))

-- After a line feed begins an empty line.
empty_line : (units : ℕ → ℕ) (text : List ℕ) → EndsLine text → head units text ≡ 0
empty_line units text feed =
    let count : suc (length text - 1) ≡ length text = omega (arith, feed.some) in
    let ends : starts_line text (suc (length text - 1)) ≡ true = rw feed.feed refl in
    let end : line_start text (line_ends text) ≡ length text =
    end_starts text (length text) (omega arith) feed.some (ap (starts_line text) (sym count) ∙ ends) in
    ap (λ s. units_between units text s (length text)) end ∙
    ap (λ n. sum_by units (take n (drop (length text) text))) (let e : length text - length text ≡ 0 = omega arith in e)

pub feed_head : (units : ℕ → ℕ) (bytes : List ℕ) → IsUtf8 bytes → 0 < length bytes
    → slice_index bytes (length bytes - 1) ≡ 10 → head_of units bytes ≡ 0
feed_head units bytes utf8 some feed = grind (arith, common_steps, empty_line, feed_text, encodes-chars)

-- The end of a text is a place.
pub end_at : (bytes : List ℕ) → IsUtf8 bytes → place_of (chars bytes) (length (chars bytes)) ≡ length bytes
end_at bytes utf8 = place_end (chars bytes) ∙ ap length (encodes-chars bytes utf8)

pub end_place : (bytes : List ℕ) → IsUtf8 bytes → IsPlace (chars bytes) (length bytes)
end_place bytes utf8 = grind (arith, common_steps, splits_none_past, end_at)
