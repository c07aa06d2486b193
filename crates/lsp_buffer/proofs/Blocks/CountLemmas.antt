-- What texts count, one after the other.
use Rattle.lsp_buffer.proofs.Prelude.{ℕ, ◌≡◌, ◌+◌, ◌<◌, ◌≤◌, List, [], ◌∷◌, ◌++◌, length, take, drop, get_or, sym, ap, ◌∙◌, arith, subst, concat, chars, IsUtf8, take-add, length-append, concat-append, chars-append, chars-nil, encodes-chars, length-le-encodes, Encoding, Utf8, Utf16, Utf32, line_ends, units_in, units_total, Counts, AreBlocks, block_ends, carried, counts_of, head_of, HaveRoom, counts_sum, AreFull, Closes, common_steps}
use Rattle.lsp_text.proofs.Positions.ExactLemmas.{line_low}
use Rattle.lsp_buffer.proofs.Blocks.BlockLemmas.{chars_close, concat_split, full_closes, full_utf8, split}
use Rattle.lsp_buffer.proofs.Blocks.CutLemmas.{concat_more}
use Rattle.lsp_buffer.proofs.Blocks.PartLemmas.{head_of_both}
use Rattle.lsp_buffer.proofs.Blocks.SeamLemmas.{head, seam_count}

pub none_count : counts_of [] ≡ record { len = 0; ends = 0; utf8 = 0; utf16 = 0; utf32 = 0 }
none_count = λ i. record {
  len = 0;
  ends = ap line_ends chars-nil i;
  utf8 = ap (head (units_in Utf8)) chars-nil i;
  utf16 = ap (head (units_in Utf16)) chars-nil i;
  utf32 = ap (head (units_in Utf32)) chars-nil i;
}

-- There are no more line ends than bytes.
pub ends_low : (bytes : List ℕ) → IsUtf8 bytes → block_ends bytes ≤ length bytes
ends_low bytes utf8 = grind (arith, common_steps, line_low, length-le-encodes, encodes-chars)

-- There are no more units than bytes.
pub head_low : (encoding : Encoding) (bytes : List ℕ) → IsUtf8 bytes → head_of (units_in encoding) bytes ≤ length bytes
head_low encoding bytes utf8 = grind (arith, common_steps, units_total, encodes-chars)

module _ (a b : List ℕ) (utf8 : IsUtf8 a) (closes : Closes a) where
  pub ends_both : block_ends (a ++ b) ≡ block_ends a + block_ends b
  ends_both = grind (arith, common_steps, chars-append, seam_count, chars_close)

  pub head_both : (units : ℕ → ℕ) → head_of units (a ++ b) ≡ carried (block_ends b) (head_of units a) + head_of units b
  head_both units = ap (head units) (chars-append a b utf8) ∙ head_of_both (chars a) (chars b)
      (chars_close a utf8 closes) units

  pub counts_both : ◌≡◌ {A = Counts} (counts_of (a ++ b)) (counts_sum (counts_of a) (counts_of b))
  counts_both = λ i. record {
    len = length-append a b i;
    ends = ends_both i;
    utf8 = head_both (units_in Utf8) i;
    utf16 = head_both (units_in Utf16) i;
    utf32 = head_both (units_in Utf32) i;
  }

pub room_both : (a b : List ℕ) → IsUtf8 a → IsUtf8 b → length a + length b ≤ 2147483648
    → HaveRoom (counts_of a) (counts_of b)
room_both a b one two size = record {
  len = omega (arith, size);
  ends = omega (arith, size, ends_low a one, ends_low b two);
  utf8 = omega (arith, size, head_low Utf8 a one, head_low Utf8 b two);
  utf16 = omega (arith, size, head_low Utf16 a one, head_low Utf16 b two);
  utf32 = omega (arith, size, head_low Utf32 a one, head_low Utf32 b two);
}

-- Numbers that are those of two texts.
module _ (a b : List ℕ) (before next : Counts) (before_is : before ≡ counts_of a) (next_is : next ≡ counts_of b) where
  pub have_room : IsUtf8 a → IsUtf8 b → length a + length b ≤ 2147483648 → HaveRoom before next
  have_room one two size = grind (arith, common_steps, room_both)

  pub are_sum : (sum : Counts) → IsUtf8 a → Closes a → sum ≡ counts_sum before next → sum ≡ counts_of (a ++ b)
  are_sum sum utf8 closes is = grind (arith, common_steps, counts_both)

-- One block more.
module _ (blocks : List (List ℕ)) (index : ℕ) (block : List ℕ) (within : index < length blocks)
    (block_is : block ≡ get_or blocks index block) (full : AreFull (take index blocks)) (before next : Counts)
    (before_is : before ≡ counts_of (concat (take index blocks))) (next_is : next ≡ counts_of block) where
  block_low : length (concat (take index blocks)) + length block ≤ length (concat blocks)
  block_low = omega (
    arith,
    ap length (concat_split (index + 1) blocks),
    length-append (concat (take (index + 1) blocks)) (concat (drop (index + 1) blocks)),
    ap length (concat_more blocks index block within block_is),
    length-append (concat (take index blocks)) block,
  )

  pub room_more : IsUtf8 block → length (concat blocks) ≤ 2147483648 → HaveRoom before next
  room_more utf8 size = have_room (concat (take index blocks)) block before next before_is next_is
      (full_utf8 (take index blocks) full) utf8 (omega (arith, block_low, size))

  pub sum_more : (sum : Counts) → sum ≡ counts_sum before next → sum ≡ counts_of (concat (take (index + 1) blocks))
  sum_more sum is =
      are_sum (concat (take index blocks)) block before next before_is next_is sum (full_utf8 (take index blocks) full)
      (full_closes (take index blocks) full) is ∙
      ap counts_of (sym (concat_more blocks index block within block_is))

-- The blocks from one on, up to another one that isn't the last.
module _ (blocks : List (List ℕ)) (are : AreBlocks blocks) (first count : ℕ)
    (within : first + count < length blocks) where
  front_full : AreFull (take (first + count) blocks)
  front_full = (split blocks (first + count) are within).full

  fronts : take (first + count) blocks ≡ take first blocks ++ take count (drop first blocks)
  fronts = take-add first count blocks

  pub first_full : AreFull (take first blocks)
  first_full = (split blocks first are (omega (arith, within))).full

  pub some_full : AreFull (take count (drop first blocks))
  some_full = full_append (take first blocks) (take count (drop first blocks)) (subst AreFull fronts front_full)
    where
      full_append : (xs ys : List (List ℕ)) → AreFull (xs ++ ys) → AreFull ys
      full_append [] ys full = full
      full_append (x ∷ xs) ys full = full_append xs ys full.1

  some_text : concat (take (first + count) blocks)
      ≡ concat (take first blocks) ++ concat (take count (drop first blocks))
  some_text = ap concat fronts ∙ concat-append (take first blocks) (take count (drop first blocks))

  pub some_low : length (concat (take first blocks)) + length (concat (take count (drop first blocks)))
      ≤ length (concat blocks)
  some_low = omega (
    arith,
    ap length some_text,
    length-append (concat (take first blocks)) (concat (take count (drop first blocks))),
    ap length (concat_split (first + count) blocks),
    length-append (concat (take (first + count) blocks)) (concat (drop (first + count) blocks)),
  )

  module _ (before next : Counts) (before_is : before ≡ counts_of (concat (take first blocks)))
      (next_is : next ≡ counts_of (concat (take count (drop first blocks)))) where
    pub room_some : length (concat blocks) ≤ 2147483648 → HaveRoom before next
    room_some size = have_room (concat (take first blocks)) (concat (take count (drop first blocks))) before next
        before_is next_is (full_utf8 (take first blocks) first_full)
        (full_utf8 (take count (drop first blocks)) some_full) (omega (arith, some_low, size))

    pub sum_some : (sum : Counts) → sum ≡ counts_sum before next
        → sum ≡ counts_of (concat (take (first + count) blocks))
    sum_some sum is = grind (arith, common_steps, are_sum, full_utf8, first_full, full_closes, some_text)
