-- A text in three parts: what comes before a block, the block, and what comes after it. Positions, boundaries and
-- changes of the text by those of the block.
use Rattle.lsp_buffer.proofs.Prelude.{ℕ, zero, suc, ◌≡◌, ◌+◌, ◌-◌, ◌<◌, ◌≤◌, ◌⊎◌, false, List, [], ◌++◌, length, take, drop, Option, Some, None, option_map, ⊎_elim, inl, inr, refl, sym, ap, ◌∙◌, arith, encode_utf8_all, chars, IsCharBoundary, drop-append-add, take-append-add, drop-append_seam, length-append, take-append-le, drop-append-le, append-nil, take_at, chars-append, chars-nil, encodes-chars, Position, place_of, line_ends, splits_crlf, IsPlace, exact_position, denoted, place_add, place_order, place_end, splits_none_past, denoted_whole, EndsClear, carried, AreThree, Closes, IsClearSeam, IsAtOrAfter, IsBefore, position_after, position_from, common_steps}
use Rattle.lsp_text.proofs.Positions.NearLemmas.{exact_near}
use Rattle.lsp_buffer.proofs.Blocks.SeamLemmas.{head, denoted_left, denoted_last, denoted_right, exact_right, head_right, seam_splits, beyond_splits}
use Rattle.lsp_buffer.proofs.Blocks.BlockLemmas.{clear_chars, chars_close}
use Rattle.std.proofs.lemmas.Grind.{common_steps}

pub carried_none : (line : ℕ) → carried line 0 ≡ 0
carried_none zero = refl
carried_none (suc line) = refl

pub carried_low : (line head : ℕ) (p : Position) → IsAtOrAfter line head p → (line ≤ p.line)
    × (carried (p.line - line) head ≤ p.character)
carried_low line head p = grind (arith, common_steps)

pub position_back : (line head : ℕ) (p : Position) → IsAtOrAfter line head p
    → ◌≡◌ {A = Position} p (position_from line head (position_after line head p))
position_back line head p after = grind (arith, common_steps, carried_low)

-- Characters: the first part is empty or ends with no carriage return.
module _ (a r : List ℕ) (closes : Closes a) where
  pub denoted_after : (units : ℕ → ℕ) → ((c : ℕ) → 1 ≤ units c) → (p : Position)
      → IsAtOrAfter (line_ends a) (head units a) p → denoted units (a ++ r) p ≡ option_map (λ k. length a + k)
      (denoted units r (position_after (line_ends a) (head units a) p))
  denoted_after units some p after =
      ⊎_elim
      (λ (e : a ≡ []). at_none e)
      (λ (e : EndsClear a).
      grind (arith, common_steps, position_back, denoted_right))
      closes
    where
      at_none : a ≡ [] → denoted units (a ++ r) p ≡ option_map (λ k. length a + k)
          (denoted units r (position_after (line_ends a) (head units a) p))
      at_none e = grind (arith, common_steps, carried_none)

  pub exact_after : (units : ℕ → ℕ) (k : ℕ) → k ≤ length r
      → ◌≡◌ {A = Position} (exact_position units (a ++ r) (length a + k))
      (position_from (line_ends a) (head units a) (exact_position units r k))
  exact_after units k h = grind (arith, common_steps, carried_none, exact_right)

  pub head_of_both : (units : ℕ → ℕ) → head units (a ++ r) ≡ carried (line_ends r) (head units a) + head units r
  head_of_both units = grind (arith, common_steps, carried_none, head_right)

  pub splits_after : (k : ℕ) → splits_crlf (a ++ r) (length a + k) ≡ splits_crlf r k
  splits_after k = grind (arith, common_steps, beyond_splits)

  place_after : (k : ℕ) → place_of (a ++ r) (length a + k) ≡ length (encode_utf8_all a) + place_of r k
  place_after k = grind (arith, common_steps, place_add, take_at, drop-append_seam)

module _ (b c : List ℕ) where
  pub denoted_before : (units : ℕ → ℕ) → ((c : ℕ) → 1 ≤ units c) → (p : Position) → (c ≡ [])
      ⊎ (EndsClear b × IsBefore (line_ends b) (head units b) p) → denoted units (b ++ c) p ≡ denoted units b p
  denoted_before units some p after = grind (arith, common_steps, append-nil, denoted_left, denoted_last)

  place_before : (k : ℕ) → k ≤ length b → place_of (b ++ c) k ≡ place_of b k
  place_before k h = ap (λ cs. length (encode_utf8_all cs)) (take-append-le k b c h)

  splits_before : (k : ℕ) → k ≤ length b → IsClearSeam b c → splits_crlf (b ++ c) k ≡ splits_crlf b k
  splits_before k h after = grind (arith, common_steps, append-nil, seam_splits)

module _ (bytes front block rest : List ℕ) (are : AreThree bytes front block rest) where
  a : List ℕ
  a = chars front

  b : List ℕ
  b = chars block

  c : List ℕ
  c = chars rest

  chars_are : chars bytes ≡ chars front ++ (chars block ++ chars rest)
  chars_are = ap chars are.whole ∙ (grind (arith, common_steps, chars-append))

  closes_chars : Closes (chars front)
  closes_chars = chars_close front are.front_utf8 are.closes

  seam_chars : IsClearSeam (chars block) (chars rest)
  seam_chars = grind (arith, common_steps, inl, chars-nil, inr, clear_chars)

  front_len : length (encode_utf8_all (chars front)) ≡ length front
  front_len = ap length (encodes-chars front are.front_utf8)

  block_len : length (encode_utf8_all (chars block)) ≡ length block
  block_len = ap length (encodes-chars block are.block_utf8)

  -- What a position denotes in all is what it denotes in the block.
  pub resolved_three : (units : ℕ → ℕ) → ((c : ℕ) → 1 ≤ units c) → (p : Position)
      → IsAtOrAfter (line_ends (chars front)) (head units (chars front)) p →
      (rest ≡ []) ⊎ IsBefore (line_ends (chars block)) (head units (chars block))
      (position_after (line_ends (chars front)) (head units (chars front)) p) →
      option_map (place_of (chars bytes)) (denoted units (chars bytes) p) ≡ option_map (λ n. length front + n)
      (option_map (place_of (chars block))
      (denoted units (chars block) (position_after (line_ends (chars front)) (head units (chars front)) p)))
  resolved_three units some p low high =
      ap (λ cs. option_map (place_of cs) (denoted units cs p)) chars_are ∙
      (ap (option_map (place_of (chars front ++ (chars block ++ chars rest))))
      (denoted_after (chars front) (chars block ++ chars rest) closes_chars units some p low
      ∙ ap (option_map (λ k. length (chars front) + k)) (denoted_before (chars block) (chars rest) units some q inside))
      ∙
      placed (denoted units (chars block) q) refl)
    where
      q : Position
      q = position_after (line_ends (chars front)) (head units (chars front)) p

      inside : (chars rest ≡ [])
          ⊎ (EndsClear (chars block) × IsBefore (line_ends (chars block)) (head units (chars block))
          (position_after (line_ends (chars front)) (head units (chars front)) p))
      inside = grind (arith, common_steps, inl, chars-nil, inr, seam_chars)

      placed : (o : Option ℕ) → denoted units (chars block) q ≡ o →
          option_map (place_of (chars front ++ (chars block ++ chars rest))) (option_map (λ k. length (chars front) + k)
          o) ≡ option_map (λ n. length front + n) (option_map (place_of (chars block)) o)
      placed None e = refl
      placed (Some k) e =
          let within : k ≤ length (chars block) = (denoted_whole units (chars block) q k e).within in
          ap Some
          (grind (arith, common_steps, place_after, closes_chars, front_len, place_before))

  -- An index of all whose byte offset is in the block.
  pub record IsInner (place index : ℕ) : Type 0 where
    pub inner : ℕ
    pub index_is : index ≡ length (chars front) + inner
    pub within : inner ≤ length (chars block)
    pub place_is : place_of (chars block) inner ≡ place - length front
    pub splits : splits_crlf (chars bytes) index ≡ splits_crlf (chars block) inner

  pub inner_index : (place index : ℕ) → length front ≤ place → (rest ≡ []) ⊎ (place - length front < length block)
      → index ≤ length (chars bytes) → place_of (chars bytes) index ≡ place → IsInner place index
  inner_index place index low high within at =
      record {
        inner = index - length (chars front);
        index_is = back;
        within = inside;
        place_is = sym (place_before (chars block) (chars rest) j inside) ∙ omega (arith, placed);
        splits = ap (splits_crlf (chars bytes)) back ∙ (ap (λ cs. splits_crlf cs (length (chars front) + j)) chars_are
            ∙ (splits_after (chars front) (chars block ++ chars rest) closes_chars j ∙ splits_before (chars block)
            (chars rest) j inside seam_chars));
      }
    where
      j : ℕ
      j = index - length (chars front)

      size : length (chars bytes) ≡ length (chars front) + length (chars block ++ chars rest)
      size = ap length chars_are ∙ length-append (chars front) (chars block ++ chars rest)

      start_at : place_of (chars bytes) (length (chars front)) ≡ length front
      start_at = grind (arith, common_steps, chars_are, take_at, front_len)

      order : length (chars front) ≤ index
      order = place_order (chars bytes) (length (chars front)) index (omega (arith, size))
          (omega (arith, start_at, at, low))

      back : index ≡ length (chars front) + j
      back = omega (arith, order)

      placed : place ≡ length front + place_of (chars block ++ chars rest) j
      placed =
          sym at ∙ (ap (place_of (chars bytes)) back ∙ (grind (arith, common_steps, chars_are, place_after, closes_chars, front_len)))

      block_end : place_of (chars block ++ chars rest) (length (chars block)) ≡ length block
      block_end = place_before (chars block) (chars rest) (length (chars block)) (omega arith)
          ∙ (place_end (chars block) ∙ block_len)

      tail : length (chars block ++ chars rest) ≡ length (chars block) + length (chars rest)
      tail = length-append (chars block) (chars rest)

      inside : j ≤ length (chars block)
      inside =
          ⊎_elim
          (λ (e : rest ≡ []). omega (arith, size, tail, within, order, ap length (ap chars e ∙ chars-nil)))
          (λ (h : place - length front < length block).
          place_order (chars block ++ chars rest) j (length (chars block)) (omega (arith, size, within, order))
          (omega (arith, placed, block_end, low, h)))
          high

  pub exact_three : (units : ℕ → ℕ) (place index : ℕ) (is : IsInner place index) → splits_crlf (chars bytes) index
      ≡ false →
      ◌≡◌ {A = Position} (exact_position units (chars bytes) index)
      (position_from (line_ends (chars front)) (head units (chars front)) (exact_position units (chars block) is.inner))
  exact_three units place index is whole =
      let tail = length-append (chars block) (chars rest) in
      let same : exact_position units (chars block ++ chars rest) is.inner ≡ exact_position units (chars block)
      is.inner =
      grind (arith, common_steps, exact_near, take-append-le, splits_before, seam_chars) in
      ap (exact_position units (chars bytes)) is.index_is ∙
      (grind (arith, common_steps, chars_are, exact_after, closes_chars))

  pub boundary_in : (place : ℕ) → length front ≤ place → (rest ≡ []) ⊎ (place - length front < length block)
      → IsCharBoundary bytes place → IsCharBoundary block (place - length front)
  boundary_in place low high at = grind (arith, common_steps, length-append)

  -- What stands from a place on, and before it.
  pub drop_three : (n : ℕ) → n ≤ length block → drop (length front + n) bytes ≡ drop n block ++ rest
  drop_three n h = ap (drop (length front + n)) are.whole
      ∙ (drop-append-add front (block ++ rest) n ∙ drop-append-le n block rest h)

  pub take_three : (n : ℕ) → n ≤ length block → take (length front + n) bytes ≡ front ++ take n block
  take_three n h = ap (take (length front + n)) are.whole
      ∙ (take-append-add front (block ++ rest) n ∙ ap (λ bs. front ++ bs) (take-append-le n block rest h))

  -- A place of the block is one of all, and so is the block's end.
  pub place_outer : (inner : ℕ) → IsPlace (chars block) inner → IsPlace (chars bytes) (length front + inner)
  place_outer inner at =
      let j = at.0 in
      let tail = length-append (chars block) (chars rest) in
      let size : length (chars bytes) ≡ length (chars front) + length (chars block ++ chars rest) =
      ap length chars_are ∙ length-append (chars front) (chars block ++ chars rest) in (
        length (chars front) + j,
        omega (arith, size, tail, at.1),
        grind (arith, common_steps, chars_are, splits_after, closes_chars, splits_before, seam_chars),
        grind (arith, common_steps, chars_are, place_after, closes_chars, front_len, place_before),
      )

  pub place_last : IsPlace (chars block) (length block)
  place_last = grind (arith, common_steps, splits_none_past, place_end, block_len)
