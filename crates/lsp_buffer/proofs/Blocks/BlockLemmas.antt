-- Blocks: what comes before one and after it, and the lines of both.
use Rattle.lsp_buffer.proofs.Prelude.{ℕ, zero, suc, ◌≡◌, ◌+◌, ◌-◌, ◌*◌, ◌<◌, ◌≤◌, ◌⊎◌, true, List, [], ◌∷◌, ◌++◌, length, take, drop, get_or, inl, inr, refl, sym, ap, ◌∙◌, arith, subst, encode_utf8_all, concat, length-append, get_or-append_right, get_or_default, append-nil, take-append-drop, concat-append, IsUtf8-from_is_utf8, IsUtf8-append, encodes-chars, length-encode, len_utf8_bounds, chars-nil, EndsClear, IsFull, AreBlocks, AreFull, Closes, common_steps}
use Rattle.std.specs.Str.{chars, is_utf8, IsUtf8}
use Rattle.std.proofs.Math.Utf8.{encode}

-- ---- no carriage return at the end

pub ends_join : (a b : List ℕ) → EndsClear b → EndsClear (a ++ b)
ends_join a b ends = record {
  some = omega (arith, length-append a b, ends.some);
  clear = grind (arith, common_steps, length-append, get_or-append_right);
}

pub ends_tail : (a b : List ℕ) → 0 < length b → EndsClear (a ++ b) → EndsClear b
ends_tail a b some ends = record {
  some = some;
  clear = grind (arith, common_steps, length-append, get_or-append_right);
}

clear_text : (text : List ℕ) → EndsClear (encode_utf8_all text) → EndsClear text
unfolding encode
clear_text [] ends = absurd (omega (arith, ends.some))
clear_text (x ∷ []) ends = record { some = omega arith; clear = grind (arith, common_steps) }
clear_text (x ∷ y ∷ text) ends =
    let some : 0 < length (encode_utf8_all (y ∷ text)) =
    omega (arith, length-append (encode y) (encode_utf8_all text), length-encode y, (len_utf8_bounds y).0) in
    ends_join (x ∷ []) (y ∷ text) (clear_text (y ∷ text) (ends_tail (encode x) (encode_utf8_all (y ∷ text)) some ends))

-- What doesn't end with the byte of a carriage return doesn't end with the character.
pub clear_chars : (bytes : List ℕ) → IsUtf8 bytes → EndsClear bytes → EndsClear (chars bytes)
clear_chars bytes utf8 ends = clear_text (chars bytes) (subst EndsClear (sym (encodes-chars bytes utf8)) ends)

pub chars_close : (bytes : List ℕ) → IsUtf8 bytes → Closes bytes → Closes (chars bytes)
chars_close bytes utf8 closes = grind (arith, common_steps, inl, chars-nil, inr, clear_chars)

-- ---- full blocks

pub full_utf8 : (blocks : List (List ℕ)) → AreFull blocks → IsUtf8 (concat blocks)
unfolding is_utf8 chars
full_utf8 [] full = IsUtf8-from_is_utf8 [] refl
full_utf8 (b ∷ blocks) full = IsUtf8-append b (concat blocks) (IsUtf8-from_is_utf8 b full.0.utf8)
    (full_utf8 blocks full.1)

pub full_closes : (blocks : List (List ℕ)) → AreFull blocks → Closes (concat blocks)
full_closes [] full = inl refl
full_closes (b ∷ blocks) full = grind (arith, common_steps, inr, append-nil, ends_join, (full_closes blocks full.1))

-- ---- one of the blocks

-- What comes before the block with an index, the block, and what comes after it.
pub record IsSplit (blocks : List (List ℕ)) (index : ℕ) : Type 0 where
  pub whole : blocks ≡ take index blocks ++ get_or blocks index [] ∷ drop (index + 1) blocks
  pub full : AreFull (take index blocks)
  pub utf8 : is_utf8 (get_or blocks index []) ≡ true
  pub after : (drop (index + 1) blocks ≡ []) ⊎ (IsFull (get_or blocks index []) × AreBlocks (drop (index + 1) blocks))

pub split : (blocks : List (List ℕ)) (index : ℕ) → AreBlocks blocks → index < length blocks → IsSplit blocks index
split [] index are h = absurd are
split (b ∷ []) zero are h = record { whole = refl; full = tt; utf8 = are; after = inl refl }
split (b ∷ []) (suc index) are h = absurd (omega arith)
split (b ∷ c ∷ blocks) zero are h = record { whole = refl; full = tt; utf8 = are.0.utf8; after = inr are }
split (b ∷ c ∷ blocks) (suc index) are h =
    let at : suc index + 1 ≡ suc (index + 1) = omega arith in
    let later = split (c ∷ blocks) index are.1 (omega arith) in
    record {
      whole = rw at (ap (λ bs. b ∷ bs) later.whole);
      full = (are.0, later.full);
      utf8 = later.utf8;
      after = rw at later.after;
    }

put_first : (b : List ℕ) (blocks : List (List ℕ)) → IsFull b → AreBlocks blocks → AreBlocks (b ∷ blocks)
put_first b [] full are = absurd are
put_first b (c ∷ blocks) full are = (full, are)

pub full_front : (front blocks : List (List ℕ)) → AreFull front → AreBlocks blocks → AreBlocks (front ++ blocks)
full_front [] blocks full are = are
full_front (b ∷ front) blocks full are = put_first b (front ++ blocks) full.0 (full_front front blocks full.1 are)

-- Blocks in three parts.
pub joined_blocks : (front fresh rest : List (List ℕ)) → AreFull front → AreBlocks fresh → (rest ≡ [])
    ⊎ (AreFull fresh × AreBlocks rest) → AreBlocks (front ++ (fresh ++ rest))
joined_blocks front fresh rest full are after = grind (arith, common_steps, full_front, append-nil)

-- The last of some blocks is another one.
pub full_last : (front : List (List ℕ)) (b : List ℕ) → AreFull front → IsFull b → AreFull (front ++ b ∷ [])
full_last [] b full is = (is, tt)
full_last (c ∷ front) b full is = (full.0, full_last front b full.1 is)

pub blocks_utf8 : (blocks : List (List ℕ)) → AreBlocks blocks → IsUtf8 (concat blocks)
blocks_utf8 [] are = absurd are
blocks_utf8 (b ∷ []) are = subst IsUtf8 (sym (append-nil b)) (IsUtf8-from_is_utf8 b are)
blocks_utf8 (b ∷ c ∷ blocks) are = IsUtf8-append b (concat (c ∷ blocks)) (IsUtf8-from_is_utf8 b are.0.utf8)
    (blocks_utf8 (c ∷ blocks) are.1)

-- There are few.
pub blocks_few : (blocks : List (List ℕ)) → AreBlocks blocks → 1024 * length blocks ≤ length (concat blocks) + 1024
blocks_few [] are = absurd are
blocks_few (b ∷ []) are = omega arith
blocks_few (b ∷ c ∷ blocks) are = grind (arith, common_steps, length-append, (blocks_few (c ∷ blocks) are.1))

pub blocks_some : (blocks : List (List ℕ)) → AreBlocks blocks → 0 < length blocks
blocks_some [] are = absurd are
blocks_some (b ∷ blocks) are = omega arith

-- The text in three parts.
pub split_text : (blocks : List (List ℕ)) (index : ℕ) → IsSplit blocks index → concat blocks
    ≡ concat (take index blocks) ++ (get_or blocks index [] ++ concat (drop (index + 1) blocks))
split_text blocks index is =
    ap concat is.whole ∙ concat-append (take index blocks) (get_or blocks index [] ∷ drop (index + 1) blocks)

-- Some of the first blocks, and some after these.
pub full_take : (n : ℕ) (blocks : List (List ℕ)) → AreFull blocks → AreFull (take n blocks)
full_take (suc n) (b ∷ blocks) full = (full.0, full_take n blocks full.1)
full_take _ _ full = tt

pub full_at : (index : ℕ) (blocks : List (List ℕ)) → index < length blocks → AreFull blocks
    → IsFull (get_or blocks index [])
full_at index [] h full = absurd (omega arith)
full_at zero (b ∷ blocks) h full = full.0
full_at (suc index) (b ∷ blocks) h full = full_at index blocks (omega arith) full.1

-- The first bytes of a text in blocks, up to a block, are no more than all.
pub concat_split : (n : ℕ) (blocks : List (List ℕ)) → concat blocks ≡ concat (take n blocks) ++ concat (drop n blocks)
concat_split n blocks = ap concat (sym (take-append-drop n blocks)) ∙ concat-append (take n blocks) (drop n blocks)

-- A full block is a text.
pub full_text : (blocks : List (List ℕ)) (index : ℕ) (block : List ℕ) → index < length blocks
    → block ≡ get_or blocks index block → AreFull blocks → IsUtf8 block
full_text blocks index block within block_is full =
    subst IsUtf8 (get_or_default blocks index [] block within ∙ sym block_is)
    (IsUtf8-from_is_utf8 (get_or blocks index []) (full_at index blocks within full).utf8)
