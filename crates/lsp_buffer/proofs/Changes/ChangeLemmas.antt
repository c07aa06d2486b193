-- A change of a text in blocks: in its block, or with the blocks cut again.
use Rattle.lsp_buffer.proofs.Prelude.{ℕ, zero, suc, ◌≡◌, ◌+◌, ◌-◌, ◌/◌, ◌<◌, ◌≤◌, ◌⊎◌, List, [], ◌∷◌, ◌++◌, length, take, drop, set, get_or, ⊎_elim, inl, inr, refl, sym, ap, ◌∙◌, arith, subst, concat, replace_range, IsUtf8, IsCharBoundary, cases_lt, append_assoc, drop_all, get_or_default, length-append, length-drop, length-take-le, set-get_or, set-set, set_split, take-append-drop, take-take, concat-append, IsUtf8-append, IsUtf8-drop, IsUtf8-from_is_utf8, IsUtf8-take, is_utf8-from_IsUtf8, Counts, Found, Offset, BlockRange, AreBlocks, AreGroups, EndsClear, IsFull, IsTextBuffer, IsChange, IsRangeOf, IsTaken, JoinsNext, StaysInside, text_after, text_left, AreFull, IsFound, common_steps}
use Rattle.lsp_buffer.proofs.Blocks.BlockLemmas.{IsSplit, blocks_some, concat_split, ends_join, ends_tail, joined_blocks, split}
use Rattle.lsp_buffer.proofs.Blocks.CutLemmas.{concat_more}
use Rattle.lsp_buffer.proofs.Blocks.GroupLemmas.{groups_front}
use Rattle.lsp_buffer.proofs.Blocks.PartLemmas.{take_three, drop_three, boundary_in}
use Rattle.lsp_buffer.proofs.Queries.FoundLemmas.{IsPlaceFound, chunk_boundary, found_place, part_here}
use Rattle.std.proofs.lemmas.Grind.{common_steps}

-- What a change makes of a text in parts: the front of the first block, the new text, and the back of the last.
pub replaced_parts : (bytes front block rest front' block' rest' new : List ℕ) (start stop from from' : ℕ)
    → IsPlaceFound bytes front block rest start from → IsPlaceFound bytes front' block' rest' stop from' →
    IsCharBoundary bytes start → IsCharBoundary bytes stop →
    front ++ ((take (start - from) block ++ (new ++ drop (stop - from') block')) ++ rest') ≡ replace_range bytes start
    stop new
replaced_parts bytes front block rest front' block' rest' new start stop from from' one two at_start at_end =
    let n = start - length front in
    let m = stop - length front' in
    let n_in : n ≤ length block = (boundary_in bytes front block rest one.parts start one.low one.inside at_start).0 in
    let m_in : m ≤ length block' = (boundary_in bytes front' block' rest' two.parts stop two.low two.inside at_end).0 in
    let head : take start bytes ≡ front ++ take n block =
    ap (λ k. take k bytes) (let e : start ≡ length front + n = omega (arith, one.low) in e)
    ∙ take_three bytes front block rest one.parts n n_in in
    let tail : drop stop bytes ≡ drop m block' ++ rest' =
    ap (λ k. drop k bytes) (let e : stop ≡ length front' + m = omega (arith, two.low) in e)
    ∙ drop_three bytes front' block' rest' two.parts m m_in in
    let regroup : front ++ ((take n block ++ (new ++ drop m block')) ++ rest') ≡ (front ++ take n block) ++ new
    ++ (drop m block' ++ rest') = simp append_assoc in
    ap (λ k. front ++ ((take (start - k) block ++ (new ++ drop (stop - from') block')) ++ rest')) one.from_is ∙
    (grind (arith, common_steps))

-- The back of a block ends as the block does, and so does what ends with it.
pub back_ends : (block front : List ℕ) (n : ℕ) → n < length block → EndsClear block → EndsClear (front ++ drop n block)
back_ends block front n h feed = grind (arith, common_steps, ends_join, ends_tail, length-drop, take-append-drop)

-- How long a changed text is.
pub replaced_length : (bytes new : List ℕ) (start stop : ℕ) → start ≤ stop → stop ≤ length bytes
    → length (replace_range bytes start stop new) ≡ length bytes - (stop - start) + length new
replaced_length bytes new start stop order within = grind (arith, common_steps, length-append, length-take-le, length-drop)

-- ---- the range of a change

first_texts : (blocks : List (List ℕ)) (i j : ℕ) → i ≤ j → length (concat (take i blocks)) ≤ length
    (concat (take j blocks))
first_texts blocks i j order = omega (
  arith,
  ap length (concat_split i (take j blocks)),
  length-append (concat (take i (take j blocks))) (concat (drop i (take j blocks))),
  ap (λ bs. length (concat bs)) (take-take i j blocks order),
)

-- The blocks that the ends of a range are found in.
pub record IsRangeFound (blocks : List (List ℕ)) (from to : Found) (start stop : ℕ) : Type 0 where
  pub are : AreBlocks blocks
  pub size : length (concat blocks) ≤ 2147483648
  pub from_is : IsFound blocks (Offset start) from
  pub to_is : IsFound blocks (Offset stop) to
  pub order : start ≤ stop
  pub at_start : IsCharBoundary (concat blocks) start
  pub at_end : IsCharBoundary (concat blocks) stop

abbrev pub found_range : Found → Found → ℕ → ℕ → BlockRange
found_range from to start stop = record {
  first = from.index;
  start = start - from.before.len;
  last = to.index;
  end = stop - to.before.len;
}

module _ (blocks : List (List ℕ)) (from to : Found) (start stop : ℕ)
    (is : IsRangeFound blocks from to start stop) where
  end_found : (found : Found) (place : ℕ) → IsFound blocks (Offset place) found
      → IsPlaceFound (concat blocks) (concat (take found.index blocks)) (get_or blocks found.index [])
      (concat (drop (found.index + 1) blocks)) place found.before.len
  end_found found place there =
      found_place _ _ _ _ found.before place
      (part_here blocks (Offset place) found (get_or blocks found.index []) is.are is.size there
      (get_or_default blocks found.index [] (get_or blocks found.index []) there.begins.within))

  range_text : (new : List ℕ) → text_after blocks (found_range from to start stop) new
      ≡ replace_range (concat blocks) start stop new
  range_text new = replaced_parts _ _ _ _ _ _ _ new start stop _ _ (end_found from start is.from_is)
      (end_found to stop is.to_is) is.at_start is.at_end

  range_order : from.index ≤ to.index
  range_order = grind (arith, common_steps, first_texts, cases_lt)

  range_end : to.index + 1 < length blocks → stop - to.before.len < length (get_or blocks to.index [])
  range_end more =
      ⊎_elim
      (λ (h : stop - to.before.len < length (get_or blocks to.index [])). h)
      (λ (h : length (get_or blocks to.index []) ≤ stop - to.before.len).
      absurd (is.to_is.last more (omega (
        arith,
        h,
        (end_found to stop is.to_is).low,
        (end_found to stop is.to_is).from_is,
        ap length (concat_more blocks to.index (get_or blocks to.index []) is.to_is.begins.within
            (get_or_default blocks to.index [] (get_or blocks to.index []) is.to_is.begins.within)),
        length-append (concat (take to.index blocks)) (get_or blocks to.index []),
      ))))
      (cases_lt (stop - to.before.len) (length (get_or blocks to.index [])))

  range_change : (new : List ℕ) → length (replace_range (concat blocks) start stop new) ≤ 2147483648
      → IsChange blocks (found_range from to start stop) new
  range_change new room = record {
    are = is.are;
    order = range_order;
    within = is.to_is.begins.within;
    at_start = chunk_boundary _ _ _ _ _ _ _ refl (end_found from start is.from_is) is.at_start;
    at_end = chunk_boundary _ _ _ _ _ _ _ refl (end_found to stop is.to_is) is.at_end;
    before_end = range_end;
    forward = grind (arith, common_steps);
    size = is.size;
    room = omega (arith, room, ap length (range_text new));
  }

  pub range_is : IsRangeOf blocks start stop (found_range from to start stop)
  range_is = record { change = range_change; text = range_text }

-- ---- what a change leaves

drop_are : (n : ℕ) (blocks : List (List ℕ)) → n < length blocks → AreBlocks blocks → AreBlocks (drop n blocks)
drop_are n [] h are = absurd (omega arith)
drop_are zero (b ∷ blocks) h are = are
drop_are (suc n) (b ∷ []) h are = absurd (omega arith)
drop_are (suc n) (b ∷ c ∷ blocks) h are = drop_are n (c ∷ blocks) (omega arith) are.1

module _ (blocks : List (List ℕ)) (range : BlockRange) (new : List ℕ) (change : IsChange blocks range new) where
  pub first_within : range.first < length blocks
  first_within = omega (arith, change.order, change.within)

  first_split : IsSplit blocks range.first
  first_split = split blocks range.first change.are first_within

  last_split : IsSplit blocks range.last
  last_split = split blocks range.last change.are change.within

  -- The blocks that the ends of the range are in.
  pub first_here : (block : List ℕ) → block ≡ get_or blocks range.first block → get_or blocks range.first [] ≡ block
  first_here block is = get_or_default blocks range.first [] block first_within ∙ sym is

  pub last_here : (block : List ℕ) → block ≡ get_or blocks range.last block → get_or blocks range.last [] ≡ block
  last_here block is = get_or_default blocks range.last [] block change.within ∙ sym is

  pub left_text : (front back text : List ℕ) → front ≡ get_or blocks range.first front
      → back ≡ get_or blocks range.last back → text ≡ take range.start front ++ (new ++ drop range.end back)
      → text ≡ text_left blocks range new
  left_text front back text front_is back_is text_is = grind (arith, common_steps, first_here, last_here)

  block_low : (index : ℕ) → index < length blocks → length (get_or blocks index []) ≤ 2147483648
  block_low index within = omega (
    arith,
    change.size,
    ap length (concat_split (index + 1) blocks),
    length-append (concat (take (index + 1) blocks)) (concat (drop (index + 1) blocks)),
    ap length (concat_more blocks index (get_or blocks index []) within
        (get_or_default blocks index [] (get_or blocks index []) within)),
    length-append (concat (take index blocks)) (get_or blocks index []),
  )

  pub first_small : length (get_or blocks range.first []) ≤ 2147483648
  first_small = block_low range.first first_within

  left_utf8 : IsUtf8 new → IsUtf8 (text_left blocks range new)
  left_utf8 utf8 =
      IsUtf8-append (take range.start (get_or blocks range.first []))
      (new ++ drop range.end (get_or blocks range.last []))
      (IsUtf8-take (get_or blocks range.first []) range.start
      (IsUtf8-from_is_utf8 (get_or blocks range.first []) first_split.utf8) change.at_start)
      (IsUtf8-append new (drop range.end (get_or blocks range.last [])) utf8
      (IsUtf8-drop (get_or blocks range.last []) range.end
      (IsUtf8-from_is_utf8 (get_or blocks range.last []) last_split.utf8) change.at_end))

  last_full : range.last + 1 < length blocks → IsFull (get_or blocks range.last [])
  last_full more =
      ⊎_elim
      (λ (e : drop (range.last + 1) blocks ≡ []). grind (arith, common_steps, length-drop))
      (λ (e : IsFull (get_or blocks range.last []) × AreBlocks (drop (range.last + 1) blocks)). e.0)
      last_split.after

  left_ends : range.last + 1 < length blocks → EndsClear (text_left blocks range new)
  left_ends more = grind (arith, common_steps, append_assoc, back_ends, last_full)

  -- What is left is full, or joined with the next block.
  pub left_full : IsUtf8 new → (JoinsNext blocks (range.last + 1) (length (text_left blocks range new)) → ⊥)
      → range.last + 1 < length blocks → IsFull (text_left blocks range new)
  left_full utf8 never more = record {
    utf8 = is_utf8-from_IsUtf8 (text_left blocks range new) (left_utf8 utf8);
    ends = left_ends more;
    enough = grind (arith, common_steps, cases_lt);
  }

  -- ---- the text that is cut

  pub taken_alone : (text : List ℕ) (past : ℕ) → IsUtf8 new → text ≡ text_left blocks range new → past ≡ range.last + 1
      → (JoinsNext blocks past (length text) → ⊥) → IsTaken blocks range new text past
  taken_alone text past utf8 text_is past_is never = record {
    order = omega (arith, past_is, change.order);
    within = omega (arith, past_is, change.within);
    whole = grind (arith, common_steps, text_left);
    full = grind (arith, common_steps, left_full);
  }

  pub taken_next : (text next : List ℕ) (past : ℕ) → IsUtf8 new → text ≡ text_left blocks range new ++ next
      → past ≡ range.last + 1 → past < length blocks → next ≡ get_or blocks past next
      → IsTaken blocks range new text (past + 1)
  taken_next text next past utf8 text_is past_is within next_is = record {
    order = omega (arith, past_is, change.order);
    within = omega (arith, within);
    whole = grind (arith, common_steps, append_assoc);
    full = λ more.
        let full : IsFull (get_or blocks past []) =
        ⊎_elim
        (λ (e : drop (past + 1) blocks ≡ []). absurd (omega (arith, more, ap length e, length-drop (past + 1) blocks)))
        (λ (e : IsFull (get_or blocks past []) × AreBlocks (drop (past + 1) blocks)). e.0)
        (split blocks past change.are within).after in
        let here : IsFull next = subst IsFull (get_or_default blocks past [] next within ∙ sym next_is) full in
        subst IsFull (sym text_is)
        (record {
          utf8 = is_utf8-from_IsUtf8 (text_left blocks range new ++ next)
              (IsUtf8-append (text_left blocks range new) next (left_utf8 utf8) (IsUtf8-from_is_utf8 next here.utf8));
          ends = ends_join (text_left blocks range new) next here.ends;
          enough = omega (arith, here.enough, length-append (text_left blocks range new) next);
        });
  }

  -- The blocks that the text is cut into.
  module _ (text : List ℕ) (past : ℕ) (fresh : List (List ℕ)) (taken : IsTaken blocks range new text past)
      (fresh_text : concat fresh ≡ text) (fresh_are : AreBlocks fresh) (fresh_full : IsFull text → AreFull fresh) where
    pub cut_text : concat (take range.first blocks ++ (fresh ++ drop past blocks)) ≡ text_after blocks range new
    cut_text = grind (arith, common_steps, concat-append)

    after : (drop past blocks ≡ []) ⊎ (AreFull fresh × AreBlocks (drop past blocks))
    after = grind (arith, common_steps, inr, drop_are, inl, drop_all, cases_lt)

    cut_groups : (next : List (List ℕ)) (groups now : List Counts) → next ≡ take range.first blocks
        ++ (fresh ++ drop past blocks) → AreGroups blocks groups → now ≡ take (range.first / 32) groups
        → AreGroups next now
    cut_groups next groups now next_is groups_are now_is =
        subst (λ (bs : List (List ℕ)). AreGroups bs now) (sym next_is)
        (grind (arith, common_steps, groups_front, first_within, blocks_some, length-append))

    pub cut_is : (next : List (List ℕ)) (groups now : List Counts) → next ≡ take range.first blocks
        ++ (fresh ++ drop past blocks) → AreGroups blocks groups → now ≡ take (range.first / 32) groups
        → IsTextBuffer next now
    cut_is next groups now next_is groups_are now_is = record {
      are = subst AreBlocks (sym next_is)
          (joined_blocks (take range.first blocks) fresh (drop past blocks) first_split.full fresh_are after);
      size = omega (arith, change.room, ap length (ap concat next_is ∙ cut_text));
      groups_are = cut_groups next groups now next_is groups_are now_is;
    }

  -- ---- a change inside a block

  module _ (inside : StaysInside blocks range new) (block : List ℕ) (block_is : block ≡ get_or blocks range.first block)
    where
      front_is : get_or blocks range.first [] ≡ block
      front_is = first_here block block_is

      put_left : replace_range block range.start range.end new ≡ text_left blocks range new
      put_left = grind (arith, common_steps, append_assoc)

      -- The blocks as they were.
      pub put_none : (fresh : List ℕ) → fresh ≡ block → set blocks range.first fresh ≡ blocks
      put_none fresh is = ap (set blocks range.first) (is ∙ sym front_is) ∙ set-get_or blocks range.first []

      module _ (fresh : List ℕ) (next : List (List ℕ))
          (fresh_is : fresh ≡ replace_range block range.start range.end new)
          (next_is : next ≡ set blocks range.first fresh) where
        next_parts : next ≡ take range.first blocks ++ (text_left blocks range new ∷ [] ++ drop (range.last + 1) blocks)
        next_parts =
            next_is ∙ (set_split blocks range.first fresh first_within ∙
            (ap (λ b. take range.first blocks ++ b ∷ drop (suc range.first) blocks) (fresh_is ∙ put_left) ∙
            ap (λ n. take range.first blocks ++ text_left blocks range new ∷ drop n blocks)
            (let e : suc range.first ≡ range.last + 1 = omega (arith, inside.0) in e)))

        pub put_text : concat next ≡ text_after blocks range new
        put_text = ap concat next_parts ∙ concat-append (take range.first blocks) (text_left blocks range new
            ∷ drop (range.last + 1) blocks)

        put_after : IsUtf8 new → (drop (range.last + 1) blocks ≡ [])
            ⊎ (AreFull (text_left blocks range new ∷ []) × AreBlocks (drop (range.last + 1) blocks))
        put_after utf8 = grind (arith, common_steps, inr, left_full, drop_are, inl, drop_all, cases_lt)

        pub put_are : IsUtf8 new → AreBlocks next
        put_are utf8 = subst AreBlocks (sym next_parts)
            (joined_blocks (take range.first blocks) (text_left blocks range new ∷ []) (drop (range.last + 1) blocks)
            first_split.full (is_utf8-from_IsUtf8 (text_left blocks range new) (left_utf8 utf8)) (put_after utf8))

        pub put_size : length (concat next) ≤ 2147483648
        put_size = omega (arith, change.room, ap length put_text)

        pub put_back : set next range.first block ≡ blocks
        put_back = ap (λ bs. set bs range.first block) next_is
            ∙ (set-set blocks range.first fresh block ∙ put_none block refl)
