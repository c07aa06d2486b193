-- A text that is being cut into blocks.
use Rattle.lsp_buffer.proofs.Prelude.{ℕ, ◌≡◌, ◌+◌, ◌-◌, ◌<◌, ◌≤◌, List, [], ◌∷◌, ◌++◌, length, take, drop, get_or, ap, ◌∙◌, arith, concat, IsUtf8, IsCharBoundary, take_more, length-drop, length-take-le, get_or-take, append_assoc, append-nil, take-append-drop, concat-append, is_utf8-from_IsUtf8, IsUtf8-take, IsFull, AreBlocks, AreFull, IsCut, common_steps}
use Rattle.lsp_buffer.proofs.Blocks.BlockLemmas.{ends_tail, full_last, full_front}

pub record IsCutSoFar (text rest : List ℕ) (blocks : List (List ℕ)) : Type 0 where
  pub whole : concat blocks ++ rest ≡ text
  pub full : AreFull blocks
  pub enough : 1024 ≤ length text → 1024 ≤ length rest

cut_full : (rest : List ℕ) (cut : ℕ) → IsUtf8 rest → IsCut rest cut → IsCharBoundary rest cut → IsFull (take cut rest)
cut_full rest cut utf8 is boundary =
    let size : length (take cut rest) ≡ cut = length-take-le cut rest (omega (arith, is.left)) in
    record {
      utf8 = is_utf8-from_IsUtf8 (take cut rest) (IsUtf8-take rest cut utf8 boundary);
      ends = grind (arith, common_steps, get_or-take);
      enough = omega (arith, size, is.enough);
    }

one_block : (blocks : List (List ℕ)) (b : List ℕ) → concat (blocks ++ b ∷ []) ≡ concat blocks ++ b
one_block blocks b = concat-append blocks (b ∷ []) ∙ ap (λ x. concat blocks ++ x) (append-nil b)

pub cut_more : (text rest : List ℕ) (blocks now : List (List ℕ)) (block : List ℕ) (cut : ℕ) → IsUtf8 rest
    → IsCut rest cut → IsCharBoundary rest cut → block ≡ take cut rest → now ≡ blocks ++ block ∷ [] →
    IsCutSoFar text rest blocks → IsCutSoFar text (drop cut rest) now
cut_more text rest blocks now block cut utf8 is boundary block_is now_is so_far =
    grind (arith, common_steps, one_block, append_assoc, take-append-drop, full_last, cut_full, length-drop)

pub record IsCutAll (text : List ℕ) (blocks : List (List ℕ)) : Type 0 where
  pub whole : concat blocks ≡ text
  pub are : AreBlocks blocks
  pub full : IsFull text → AreFull blocks

pub cut_all : (text rest : List ℕ) (blocks now : List (List ℕ)) (block : List ℕ) → IsUtf8 rest → block ≡ rest
    → now ≡ blocks ++ block ∷ [] → IsCutSoFar text rest blocks → IsCutAll text now
cut_all text rest blocks now block utf8 block_is now_is so_far =
    grind (arith, common_steps, one_block, full_front, is_utf8-from_IsUtf8, full_last, ends_tail)

-- One block more.
pub concat_more : (blocks : List (List ℕ)) (index : ℕ) (block : List ℕ) → index < length blocks
    → block ≡ get_or blocks index block → concat (take (index + 1) blocks) ≡ concat (take index blocks) ++ block
concat_more blocks index block within at = grind (arith, common_steps, take_more, one_block)

-- A text alone is one block.
pub one_are : (before blocks : List (List ℕ)) (block bytes : List ℕ) → before ≡ [] → blocks ≡ before ++ block ∷ []
    → block ≡ bytes → IsUtf8 bytes → AreBlocks blocks
one_are before blocks block bytes none is same utf8 = grind (arith, common_steps, is_utf8-from_IsUtf8)
