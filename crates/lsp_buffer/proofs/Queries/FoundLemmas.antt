-- The block that is found for a byte offset or a position, and what it says of the text.
use Rattle.lsp_buffer.proofs.Prelude.{ℕ, zero, suc, ◌≡◌, ◌+◌, ◌-◌, ◌*◌, ◌<◌, ◌≤◌, ◌⊎◌, false, List, [], ◌∷◌, ◌++◌, length, take, drop, get_or, Option, option_map, ⊎_elim, inl, inr, refl, sym, ap, ap₂, ◌∙◌, arith, subst, concat, chars, IsUtf8, IsCharBoundary, cases_lt, append-nil, drop_all, drop_more, length-append, length-drop, get_or_default, take_at, encodes-chars, length-le-encodes, IsUtf8-from_is_utf8, Position, Encoding, Utf8, Utf16, Utf32, place_of, line_ends, line_at, line_start, splits_crlf, IsPlace, units_in, units_between, exact_position, denoted, place_one, units_total, Counts, Found, Denoted, Offset, AreBlocks, AreFull, IsFull, IsTextBuffer, carried, block_ends, counts_of, head_of, IsPassed, HaveRoom, counts_sum, head_in, AreThree, BeginsBefore, IsFound, IsPart, IsPartAt, Reaches, IsAtOrAfter, IsBefore, position_after, position_from, common_steps}
use Rattle.lsp_text.proofs.Positions.ExactLemmas.{line_low}
use Rattle.lsp_text.specs.laws.Units.{utf8_bounds, utf16_bounds, utf32_bounds}
use Rattle.lsp_buffer.specs.declared.find.Target.{Target}
use Rattle.lsp_buffer.proofs.Blocks.BlockLemmas.{IsSplit, blocks_some, blocks_utf8, full_closes, full_utf8, split, split_text}
use Rattle.lsp_buffer.proofs.Blocks.CountLemmas.{are_sum, ends_both, have_room, head_both, none_count, room_more, room_some, some_full, some_low, sum_more, sum_some}
use Rattle.lsp_buffer.proofs.Blocks.CutLemmas.{concat_more}
use Rattle.lsp_buffer.proofs.Blocks.PartLemmas.{resolved_three, inner_index, exact_three, boundary_in, carried_low, drop_three}
use Rattle.std.proofs.lemmas.Grind.{common_steps}

pub units_some : (encoding : Encoding) (c : ℕ) → 1 ≤ units_in encoding c
units_some Utf8 c = (utf8_bounds c).0
units_some Utf16 c = (utf16_bounds c).0
units_some Utf32 c = (utf32_bounds c).0

pub record IsPlaceFound (bytes front block rest : List ℕ) (place from : ℕ) : Type 0 where
  pub parts : AreThree bytes front block rest
  pub from_is : from ≡ length front
  pub low : length front ≤ place
  pub inside : (rest ≡ []) ⊎ (place - length front < length block)

pub record IsLineFound (bytes front block rest : List ℕ) (units : ℕ → ℕ) (p : Position) (first head from : ℕ) : Type
    0 where
  pub parts : AreThree bytes front block rest
  pub from_is : from ≡ length front
  pub first_is : first ≡ line_ends (chars front)
  pub head_is : head ≡ head_of units front
  pub low : IsAtOrAfter first head p
  pub inside : (rest ≡ []) ⊎ IsBefore (block_ends block) (head_of units block) (position_after first head p)

-- ---- the search

pub head_counted : (encoding : Encoding) (text : List ℕ) → head_in (counts_of text) encoding
    ≡ head_of (units_in encoding) text
head_counted Utf8 text = refl
head_counted _ text = refl

head_none : (encoding : Encoding) → head_in (counts_of []) encoding ≡ 0
head_none Utf8 = ap (λ (c : Counts). c.utf8) none_count
head_none Utf16 = ap (λ (c : Counts). c.utf16) none_count
head_none Utf32 = ap (λ (c : Counts). c.utf32) none_count

reaches_first : (target : Target) → Reaches target (counts_of [])
reaches_first (Offset offset) = omega arith
reaches_first (Denoted encoding p) = grind (arith, common_steps, inl, none_count, inr, head_none, cases_lt)

-- The first block begins before all.
pub begins_first : (blocks : List (List ℕ)) (target : Target) (before : Counts) → AreBlocks blocks
    → before ≡ counts_of [] → BeginsBefore blocks target (record { index = 0; before = before })
begins_first blocks target before are is = record {
  within = blocks_some blocks are;
  before = is;
  low = subst (Reaches target) (sym is) (reaches_first target);
}

-- One group more.
module _ (blocks : List (List ℕ)) (groups : List Counts) (is : IsTextBuffer blocks groups) (target : Target)
    (number : ℕ) (group before : Counts) (within : number < length groups)
    (group_is : group ≡ get_or groups number group)
    (begins : BeginsBefore blocks target (record { index = 32 * number; before = before })) where
  group_within : 32 * number + 32 < length blocks
  group_within = omega (arith, within, is.groups_are.within)

  group_counts : group ≡ counts_of (concat (take 32 (drop (32 * number) blocks)))
  group_counts = group_is ∙ (grind (arith, common_steps, get_or_default, counts_of))

  pub group_room : HaveRoom before group
  group_room = room_some blocks is.are (32 * number) 32 group_within before group begins.before group_counts is.size

  pub group_next : (next : Counts) → next ≡ counts_sum before group → Reaches target next
      → BeginsBefore blocks target (record { index = 32 * (number + 1); before = next })
  group_next next next_is reaches = record {
    within = omega (arith, group_within);
    before = sum_some blocks is.are (32 * number) 32 group_within before group begins.before group_counts next next_is
        ∙ ap (λ (n : ℕ). counts_of (concat (take n blocks)))
        (let e : 32 * number + 32 ≡ 32 * (number + 1) = omega arith in e);
    low = reaches;
  }

-- One block more.
module _ (blocks : List (List ℕ)) (are : AreBlocks blocks) (size : length (concat blocks) ≤ 2147483648)
    (target : Target) (index : ℕ) (block : List ℕ) (counts before : Counts) (more : index + 1 < length blocks)
    (block_is : block ≡ get_or blocks index block) (counts_is : counts ≡ counts_of block)
    (begins : BeginsBefore blocks target (record { index = index; before = before })) where
  here : IsSplit blocks index
  here = split blocks index are begins.within

  pub block_room : HaveRoom before counts
  block_room =
      room_more blocks index block begins.within block_is here.full before counts begins.before counts_is
      (subst IsUtf8 (get_or_default blocks index [] block begins.within ∙ sym block_is)
      (IsUtf8-from_is_utf8 (get_or blocks index []) here.utf8)) size

  next_counts : (next : Counts) → next ≡ counts_sum before counts → next ≡ counts_of (concat (take (index + 1) blocks))
  next_counts next next_is = sum_more blocks index block begins.within block_is here.full before counts begins.before
      counts_is next next_is

  pub block_next : (next : Counts) → next ≡ counts_sum before counts → Reaches target next
      → BeginsBefore blocks target (record { index = index + 1; before = next })
  block_next next next_is reaches = record { within = more; before = next_counts next next_is; low = reaches }

  pub block_found : (next : Counts) → next ≡ counts_sum before counts → (Reaches target next → ⊥)
      → IsFound blocks target (record { index = index; before = before })
  block_found next next_is never = record {
    begins = begins;
    last = λ _ reaches. never (subst (Reaches target) (sym (next_counts next next_is)) reaches);
  }

-- ---- what bytes and line ends alone show

-- The counts that are known of what comes before a block.
pub passed_begins : (blocks : List (List ℕ)) (target : Target) (index len ends : ℕ)
    → IsPassed blocks target index len ends
    → BeginsBefore blocks target (record { index = index; before = counts_of (concat (take index blocks)) })
passed_begins blocks target index len ends is = record { within = is.within; before = refl; low = is.low }

pub passed_first : (blocks : List (List ℕ)) (target : Target) (first : Found) → BeginsBefore blocks target first
    → IsPassed blocks target first.index first.before.len first.before.ends
passed_first blocks target first begins = record {
  within = begins.within;
  low = subst (Reaches target) begins.before begins.low;
  len_is = ap (λ (c : Counts). c.len) begins.before;
  ends_are = ap (λ (c : Counts). c.ends) begins.before;
}

module _ (blocks : List (List ℕ)) (are : AreBlocks blocks) (size : length (concat blocks) ≤ 2147483648)
    (target : Target) (index len ends : ℕ) (block : List ℕ) (counts : Counts) (more : index + 1 < length blocks)
    (block_is : block ≡ get_or blocks index block) (counts_is : counts ≡ counts_of block)
    (is : IsPassed blocks target index len ends) where
  abbrev known : Counts
  known = counts_of (concat (take index blocks))

  pub passed_room : HaveRoom known counts
  passed_room = block_room blocks are size target index block counts known more block_is counts_is
      (passed_begins blocks target index len ends is)

  pub passed_next : (next_len next_ends : ℕ) → next_len ≡ len + counts.len → next_ends ≡ ends + counts.ends
      → ((before : Counts) → before.len ≡ next_len → before.ends ≡ next_ends → Reaches target before)
      → IsPassed blocks target (index + 1) next_len next_ends
  passed_next next_len next_ends len_is ends_are reaches =
      let sum : counts_sum known counts ≡ counts_of (concat (take (index + 1) blocks))
      = next_counts blocks are size target index block counts known more block_is counts_is
      (passed_begins blocks target index len ends is) (counts_sum known counts) refl in
      let bytes : len + counts.len ≡ next_len = sym len_is in
      record {
        within = more;
        low = subst (Reaches target) sum (reaches (counts_sum known counts) (omega (arith, is.len_is, len_is))
            (omega (arith, is.ends_are, ends_are)));
        len_is = omega (arith, len_is, is.len_is, ap (λ (c : Counts). c.len) sum);
        ends_are = omega (arith, ends_are, is.ends_are, ap (λ (c : Counts). c.ends) sum);
      }

-- The counts of some blocks, with one more in front of them.
module _ (blocks : List (List ℕ)) (are : AreBlocks blocks) (size : length (concat blocks) ≤ 2147483648)
    (from next index : ℕ) (step : from + 1 ≡ next) (order : next ≤ index) (within : index < length blocks)
    (block : List ℕ) (counts tail : Counts) (block_is : block ≡ get_or blocks from block)
    (counts_is : counts ≡ counts_of block)
    (tail_is : tail ≡ counts_of (concat (take (index - next) (drop next blocks)))) where
  abbrev rest : List (List ℕ)
  rest = take (index - next) (drop next blocks)

  row : take (index - from) (drop from blocks) ≡ block ∷ rest
  row =
      let n : index - from ≡ suc (index - next) = omega arith in
      rw n (ap (take (suc (index - next))) (drop_more blocks from block (omega arith)
      ∙ ap₂ (λ (b : List ℕ) (m : ℕ). b ∷ drop m blocks) (sym block_is) step))

  all : from + (index - from) ≡ index
  all = omega arith

  row_full : AreFull (block ∷ rest)
  row_full = subst AreFull row (some_full blocks are from (index - from) (omega (arith, all)))

  block_utf8 : IsUtf8 block
  block_utf8 = IsUtf8-from_is_utf8 block row_full.0.utf8

  pub tail_room : HaveRoom counts tail
  tail_room = have_room block (concat rest) counts tail counts_is tail_is block_utf8 (full_utf8 rest row_full.1)
      (omega (
        arith,
        some_low blocks are from (index - from) (omega (arith, all)),
        ap (λ (bs : List (List ℕ)). length (concat bs)) row,
        length-append block (concat rest),
        size,
      ))

  pub tail_more : (sum : Counts) → sum ≡ counts_sum counts tail
      → sum ≡ counts_of (concat (take (index - from) (drop from blocks)))
  tail_more sum is = are_sum block (concat rest) counts tail counts_is tail_is sum block_utf8 (inr row_full.0.ends) is
      ∙ ap (λ (bs : List (List ℕ)). counts_of (concat bs)) (sym row)

carried_none : (ends head own : ℕ) → (ends ≡ 0 → ⊥) → own ≡ carried ends head + own
carried_none zero head own some = absurd (some refl)
carried_none (suc ends) head own some = omega arith

-- What comes before a block is the counts before some blocks and those of these. What comes before a line end doesn't
-- count for heads.
module _ (blocks : List (List ℕ)) (are : AreBlocks blocks) (from index : ℕ) (order : from ≤ index)
    (within : index < length blocks) (tail : Counts)
    (tail_is : tail ≡ counts_of (concat (take (index - from) (drop from blocks)))) where
  ends_at : from + (index - from) ≡ index
  ends_at = omega arith

  module _ (before : Counts) (before_is : before ≡ counts_of (concat (take from blocks))) where
    pub whole_room : length (concat blocks) ≤ 2147483648 → HaveRoom before tail
    whole_room = room_some blocks are from (index - from) (omega (arith, ends_at)) before tail before_is tail_is

    pub whole_sum : (sum : Counts) → sum ≡ counts_sum before tail → sum ≡ counts_of (concat (take index blocks))
    whole_sum sum is = sum_some blocks are from (index - from) (omega (arith, ends_at)) before tail before_is
        tail_is sum is
        ∙ ap (λ (n : ℕ). counts_of (concat (take n blocks))) ends_at

  pub tail_heads : (tail.ends ≡ 0 → ⊥) → (target : Target) (len ends : ℕ) → IsPassed blocks target index len ends
      → ◌≡◌ {A = Counts} (record { len = len; ends = ends; utf8 = tail.utf8; utf16 = tail.utf16; utf32 = tail.utf32 })
      (counts_of (concat (take index blocks)))
  tail_heads some target len ends is =
      let front : Counts = counts_of (concat (take from blocks)) in
      let sum : counts_sum front tail ≡ counts_of (concat (take index blocks)) = whole_sum front refl
      (counts_sum front tail) refl in
      λ i. record {
        len = is.len_is i;
        ends = is.ends_are i;
        utf8 = (carried_none tail.ends front.utf8 tail.utf8 some ∙ ap (λ (c : Counts). c.utf8) sum) i;
        utf16 = (carried_none tail.ends front.utf16 tail.utf16 some ∙ ap (λ (c : Counts). c.utf16) sum) i;
        utf32 = (carried_none tail.ends front.utf32 tail.utf32 some ∙ ap (λ (c : Counts). c.utf32) sum) i;
      }

pub same_found : (blocks : List (List ℕ)) (place : ℕ) (found : Found) (block : List ℕ)
    → BeginsBefore blocks (Offset place) found → block ≡ get_or blocks found.index block
    → place - found.before.len < length block → IsFound blocks (Offset place) found
same_found blocks place found block begins block_is inside = record {
  begins = begins;
  last = λ _ reaches. omega (
    arith,
    reaches,
    inside,
    begins.low,
    ap (λ (c : Counts). c.len) begins.before,
    ap length (concat_more blocks found.index block begins.within block_is),
    length-append (concat (take found.index blocks)) block,
  );
}

-- ---- the block that is found

module _ (blocks : List (List ℕ)) (are : AreBlocks blocks) (index : ℕ) (block : List ℕ)
    (within : index < length blocks) (block_is : block ≡ get_or blocks index block) where
  parts : IsSplit blocks index
  parts = split blocks index are within

  same : get_or blocks index [] ≡ block
  same = get_or_default blocks index [] block within ∙ sym block_is

  pub three : AreThree (concat blocks) (concat (take index blocks)) block (concat (drop (index + 1) blocks))
  three = record {
    whole = grind (arith, common_steps, (split_text blocks index parts));
    front_utf8 = full_utf8 (take index blocks) parts.full;
    block_utf8 = subst IsUtf8 same (IsUtf8-from_is_utf8 (get_or blocks index []) parts.utf8);
    closes = full_closes (take index blocks) parts.full;
    after =
        ⊎_elim
        (λ (e : drop (index + 1) blocks ≡ []). inl (ap concat e))
        (λ (e : IsFull (get_or blocks index []) × AreBlocks (drop (index + 1) blocks)). grind
        (arith, common_steps, inr))
        parts.after;
  }

pub part_here : (blocks : List (List ℕ)) (target : Target) (found : Found) (block : List ℕ) → AreBlocks blocks
    → length (concat blocks) ≤ 2147483648 → IsFound blocks target found → block ≡ get_or blocks found.index block →
    IsPartAt (concat blocks) (concat (take found.index blocks)) block (concat (drop (found.index + 1) blocks)) target
    found.before
part_here blocks target found block are size is block_is = record {
  parts = three blocks are found.index block is.begins.within block_is;
  before_is = is.begins.before;
  low = is.begins.low;
  last =
      grind (arith, common_steps, inr, counts_of, concat_more, inl, drop_all, cases_lt);
  utf8 = blocks_utf8 blocks are;
  size = size;
}

pub part_of : (blocks : List (List ℕ)) (bytes : List ℕ) (target : Target) (found : Found) (block : List ℕ)
    → AreBlocks blocks → length (concat blocks) ≤ 2147483648 → concat blocks ≡ bytes → IsFound blocks target found
    → block ≡ get_or blocks found.index block → IsPart bytes target block found.before
part_of blocks bytes target found block are size view is block_is = record {
  front = concat (take found.index blocks);
  rest = concat (drop (found.index + 1) blocks);
  at = grind (arith, common_steps, (part_here blocks target found block are size is block_is));
}

-- A byte offset.
module _ (bytes front block rest : List ℕ) (before : Counts) (place : ℕ)
    (part : IsPartAt bytes front block rest (Offset place) before) where
  front_length : before.len ≡ length front
  front_length = ap (λ (c : Counts). c.len) part.before_is

  pub found_place : IsPlaceFound bytes front block rest place before.len
  found_place = record {
    parts = part.parts;
    from_is = front_length;
    low = omega (arith, front_length, part.low);
    inside =
        grind (arith, common_steps, inl, counts_of, inr, front_length, cases_lt);
  }

  -- The last block, where the offset is past all.
  whole_length : length bytes ≡ length front + (length block + length rest)
  whole_length = ap length part.parts.whole ∙ (grind (arith, common_steps, length-append))

  last_none : length bytes ≤ place → rest ≡ []
  last_none far = grind (arith, common_steps, whole_length)

  pub last_room : (next : Counts) → next ≡ counts_of block → HaveRoom before next
  last_room next next_is = have_room front block before next part.before_is next_is part.parts.front_utf8
      part.parts.block_utf8 (omega (arith, whole_length, part.size))

  pub last_sum : (next sum : Counts) → next ≡ counts_of block → length bytes ≤ place → sum ≡ counts_sum before next
      → sum ≡ counts_of bytes
  last_sum next sum next_is far is = grind (arith, common_steps, are_sum, last_none, append-nil)

-- A position.
not_after : (line head : ℕ) (p : Position) → (IsAtOrAfter line head p → ⊥) → IsBefore line head p
not_after line head p never = grind (arith, common_steps, inl, inr, cases_lt)

before_after : (line head ends own : ℕ) (p : Position) → IsAtOrAfter line head p
    → IsBefore (line + ends) (carried ends head + own) p → IsBefore ends own (position_after line head p)
before_after line head ends own p after = grind (arith, common_steps, carried_low, inl, inr)

module _ (bytes front block rest : List ℕ) (before : Counts) (encoding : Encoding) (p : Position)
    (part : IsPartAt bytes front block rest (Denoted encoding p) before) where
  ends_are : before.ends ≡ block_ends front
  ends_are = ap (λ (c : Counts). c.ends) part.before_is

  units_are : head_in before encoding ≡ head_of (units_in encoding) front
  units_are = ap (λ (c : Counts). head_in c encoding) part.before_is ∙ head_counted encoding front

  ends_next : block_ends (front ++ block) ≡ before.ends + block_ends block
  ends_next = ends_both front block part.parts.front_utf8 part.parts.closes
      ∙ ap (λ n. n + block_ends block) (sym ends_are)

  units_next : head_in (counts_of (front ++ block)) encoding
      ≡ carried (block_ends block) (head_in before encoding) + head_of (units_in encoding) block
  units_next = grind (arith, common_steps, head_counted, head_both)

  pub found_line : IsLineFound bytes front block rest (units_in encoding) p before.ends
      (head_in before encoding) before.len
  found_line = record {
    parts = part.parts;
    from_is = ap (λ (c : Counts). c.len) part.before_is;
    first_is = ends_are;
    head_is = units_are;
    low = part.low;
    inside =
        ⊎_elim
        (λ (e : rest ≡ []). inl e)
        (λ (never : Reaches (Denoted encoding p) (counts_of (front ++ block)) → ⊥).
        inr (before_after before.ends (head_in before encoding) (block_ends block) (head_of (units_in encoding) block) p
        part.low (grind (
          arith,
          common_steps,
          not_after,
          block_ends,
          head_in,
          head_of,
          units_in,
          counts_of,
          ends_next,
          units_next,
        ))))
        part.last;
  }

module _ (bytes front block rest : List ℕ) where
  -- A position.
  pub resolved_found : (encoding : Encoding) (p : Position) (first head from : ℕ) (o : Option ℕ)
      → IsLineFound bytes front block rest (units_in encoding) p first head from →
      o ≡ option_map (place_of (chars block)) (denoted (units_in encoding) (chars block) (position_after first head p))
      → option_map (λ n. from + n) o ≡ option_map (place_of (chars bytes)) (denoted (units_in encoding) (chars bytes) p)
  resolved_found encoding p first head from o found is =
      let units = units_in encoding in
      let low : IsAtOrAfter (line_ends (chars front)) (head_of units front) p =
      grind (arith, common_steps, line_ends, found.head_is, found.first_is) in
      let inside : (rest ≡ []) ⊎ IsBefore (block_ends block) (head_of units block)
      (position_after (line_ends (chars front)) (head_of units front) p) =
      subst (λ h. (rest ≡ []) ⊎ IsBefore (block_ends block) (head_of units block)
      (position_after (line_ends (chars front)) h p)) found.head_is
      (grind (arith, common_steps, block_ends, head_of, position_after)) in
      let inner = is ∙ (grind (arith, common_steps, place_of, denoted, position_after, line_ends)) in
      ap (option_map (λ n. from + n)) inner ∙
      (ap (λ (m : ℕ). option_map (λ n. m + n)
      (option_map (place_of (chars block))
      (denoted units (chars block) (position_after (line_ends (chars front)) (head_of units front) p)))) found.from_is ∙
      sym (resolved_three bytes front block rest found.parts units (units_some encoding) p low inside))

  pub place_inner : (place from : ℕ) → IsPlaceFound bytes front block rest place from → IsPlace (chars bytes) place
      → IsPlace (chars block) (place - from)
  place_inner place from found at =
      let is = inner_index bytes front block rest found.parts place at.0 found.low found.inside at.1 at.3 in
      (is.inner, is.within, sym is.splits ∙ at.2, is.place_is ∙ ap (λ n. place - n) (sym found.from_is))

  -- The text from a place to the end of its block.
  pub chunk_boundary : (place from : ℕ) (text : List ℕ) → text ≡ block → IsPlaceFound bytes front block rest place from
      → IsCharBoundary bytes place → IsCharBoundary text (place - from)
  chunk_boundary place from text same found at = grind (arith, common_steps, boundary_in)

  pub record IsChunk (place : ℕ) (chunk : List ℕ) : Type 0 where
    pub part : chunk ≡ take (length chunk) (drop place bytes)
    pub some : place < length bytes → 0 < length chunk

  bytes_length : (place from : ℕ) → IsPlaceFound bytes front block rest place from → length bytes ≡ length front
      + (length block + length rest)
  bytes_length place from found = grind (arith, common_steps, length-append)

  -- A byte offset in the text is one in the block.
  pub found_within : (place from : ℕ) → IsPlaceFound bytes front block rest place from → place ≤ length bytes
      → place - length front ≤ length block
  found_within place from found within = grind (arith, common_steps, bytes_length)

  pub chunk_is : (place from : ℕ) (text chunk : List ℕ) → text ≡ block → chunk ≡ drop (place - from) text
      → IsPlaceFound bytes front block rest place from → place ≤ length bytes → IsChunk place chunk
  chunk_is place from text chunk same is found within =
      let n = place - length front in
      let inside : n ≤ length block = found_within place from found within in
      let chunk_same : chunk ≡ drop n block = is ∙ (ap (λ m. drop (place - m) text) found.from_is ∙ ap (drop n) same) in
      let back : drop place bytes ≡ drop n block ++ rest =
      grind (arith, common_steps, (drop_three bytes front block rest found.parts n inside)) in
      let size : length chunk ≡ length block - n = ap length chunk_same ∙ length-drop n block in
      let all = bytes_length place from found in
      record {
        part = grind (arith, common_steps, take_at);
        some = grind (arith, common_steps);
      }

-- ---- what a part says of all

module _ (bytes block : List ℕ) (before : Counts) (encoding : Encoding) (p : Position)
    (part : IsPart bytes (Denoted encoding p) block before) (h : ℕ) (h_is : h ≡ head_in before encoding) where
  pub resolved_part : (inner : Position) (o : Option ℕ) → inner ≡ position_after before.ends h p
      → o ≡ option_map (place_of (chars block)) (denoted (units_in encoding) (chars block) inner) →
      option_map (λ n. before.len + n) o ≡ option_map (place_of (chars bytes))
      (denoted (units_in encoding) (chars bytes) p)
  resolved_part inner o inner_is is =
      resolved_found bytes part.front block part.rest encoding p before.ends h before.len o
      (subst (λ (n : ℕ). IsLineFound bytes part.front block part.rest (units_in encoding) p before.ends n before.len)
      (sym h_is) (found_line bytes part.front block part.rest before encoding p part.at))
      (grind (arith, common_steps, place_of, denoted, units_in))

module _ (bytes block : List ℕ) (before : Counts) (place : ℕ) (part : IsPart bytes (Offset place) block before) where
  pub place_part : IsPlaceFound bytes part.front block part.rest place before.len
  place_part = found_place bytes part.front block part.rest before place part.at

  pub inner_part : IsPlace (chars bytes) place → IsPlace (chars block) (place - before.len)
  inner_part = place_inner bytes part.front block part.rest place before.len place_part

  module _ (encoding : Encoding) (h : ℕ) (inner : Position) (h_is : h ≡ head_in before encoding)
      (at : IsPlace (chars bytes) place)
      (exact : (j : ℕ) → j ≤ length (chars block) → place_of (chars block) j ≡ place - before.len
      → inner ≡ exact_position (units_in encoding) (chars block) j) where
    first_is : before.ends ≡ line_ends (chars part.front)
    first_is = ap (λ (c : Counts). c.ends) part.at.before_is

    head_is : h ≡ head_of (units_in encoding) part.front
    head_is = h_is ∙ (ap (λ (c : Counts). head_in c encoding) part.at.before_is ∙ head_counted encoding part.front)

    pub exact_part : (k : ℕ) → k ≤ length (chars bytes) → place_of (chars bytes) k ≡ place
        → ◌≡◌ {A = Position} (position_from before.ends h inner) (exact_position (units_in encoding) (chars bytes) k)
    exact_part k within k_at =
        let units = units_in encoding in
        let is = inner_index bytes part.front block part.rest place_part.parts place k place_part.low place_part.inside
        within k_at in
        let one : k ≡ at.0 = place_one (chars bytes) k at.0 within at.1 (k_at ∙ sym at.3) in
        let own = exact is.inner is.within (is.place_is ∙ ap (λ n. place - n) (sym place_part.from_is)) in
        let whole : splits_crlf (chars bytes) k ≡ false = ap (splits_crlf (chars bytes)) one ∙ at.2 in
        ap (position_from before.ends h) own ∙
        (ap (λ (n : ℕ). position_from n h (exact_position units (chars block) is.inner)) first_is ∙
        (ap (λ (n : ℕ). position_from (line_ends (chars part.front)) n (exact_position units (chars block) is.inner))
        head_is ∙
        sym (exact_three bytes part.front block part.rest place_part.parts units place k is whole)))

    pub exact_few : (before.ends + inner.line ≤ length bytes) × (carried inner.line h + inner.character ≤ length bytes)
    exact_few =
        let same = exact_part at.0 at.1 at.3 in
        let line : before.ends + inner.line ≡ line_at (chars bytes) at.0 = ap (λ (q : Position). q.line) same in
        let character : carried inner.line h + inner.character ≡ units_between (units_in encoding) (chars bytes)
        (line_start (chars bytes) (line_at (chars bytes) at.0)) at.0 = ap (λ (q : Position). q.character) same in
        let size = ap length (encodes-chars bytes part.at.utf8) in (
          omega (arith, line, line_low (chars bytes) at.0, at.1, length-le-encodes (chars bytes), size),
          omega (
            arith,
            character,
            units_total encoding (chars bytes) (line_start (chars bytes) (line_at (chars bytes) at.0)) at.0,
            size,
          ),
        )
