-- Units counted block by block.
use Rattle.lsp_text.proofs.Prelude.{◌≡◌, ℕ, ◌+◌, ◌-◌, ◌*◌, ◌≤◌, false, List, [], ◌∷◌, ◌++◌, length, take, drop, sum_by, Option, option_map, ltb as nat_lt, sym, ap, ◌∙◌, arith, le-ltb, take-add, length-drop, length-take-le, take-append-drop, drop-drop, take_rest, sum_by-append, sum_by-cons, sum_by-take-drop, byte_place, common_steps}
use Rattle.lsp_text.proofs.Counting.LeadLemmas.{map_twice, map_none}
use Rattle.std.proofs.lemmas.Grind.{common_steps}

-- Bytes that have no more units than are left are passed.
module _ (lead : ℕ → ℕ) where
  pass : (xs ys : List ℕ) (c : ℕ) → sum_by lead xs ≤ c → byte_place lead (xs ++ ys) c ≡ option_map (λ n. length xs + n)
      (byte_place lead ys (c - sum_by lead xs))
  pass [] ys c few = grind (arith, common_steps, map_none)
  pass (b ∷ xs) ys c few =
      let sum : sum_by lead (b ∷ xs) ≡ lead b + sum_by lead xs = sum_by-cons lead b xs in
      let more : nat_lt c (lead b) ≡ false = le-ltb c (lead b) (omega arith) in
      let left : c - lead b - sum_by lead xs ≡ c - sum_by lead (b ∷ xs) = omega arith in
      rw (more, pass xs ys (c - lead b) (omega arith), left)
      (map_twice 1 (length xs) (byte_place lead ys (c - sum_by lead (b ∷ xs)))
      ∙ ap (λ n. option_map (λ m. n + m) (byte_place lead ys (c - sum_by lead (b ∷ xs)))) (omega arith))

  -- A block of the bytes from a place on that has no more units than are left is passed.
  pub pass_block : (bytes : List ℕ) (place size left units : ℕ) (found : Option ℕ) → place + size ≤ length bytes
      → units ≡ sum_by lead (take size (drop place bytes)) → units ≤ left →
      option_map (λ n. place + n) (byte_place lead (drop place bytes) left) ≡ found →
      option_map (λ n. (place + size) + n) (byte_place lead (drop (place + size) bytes) (left - units)) ≡ found
  pass_block bytes place size left units found within counted few rest =
      let block = take size (drop place bytes) in
      let rest_after : drop size (drop place bytes) ≡ drop (place + size) bytes = drop-drop size place bytes in
      let long = length-take-le size (drop place bytes) (omega (arith, length-drop place bytes)) in
      let whole : block ++ drop (place + size) bytes ≡ drop place bytes = grind (arith, common_steps, (take-append-drop size (drop place bytes))) in
      let passed : byte_place lead (drop place bytes) left ≡ option_map (λ n. length block + n)
      (byte_place lead (drop (place + size) bytes) (left - sum_by lead block)) =
      ap (λ xs. byte_place lead xs left) (sym whole) ∙ pass block (drop (place + size) bytes) left (omega arith) in
      sym (map_twice place size (byte_place lead (drop (place + size) bytes) (left - units))) ∙
      (grind (arith, common_steps))

  -- one block more
  pub sum_block : (bytes : List ℕ) (at size : ℕ) → sum_by lead (take (at + size) bytes) ≡ sum_by lead (take at bytes)
      + sum_by lead (take size (drop at bytes))
  sum_block bytes at size = ap (sum_by lead) (take-add at size bytes) ∙ sum_by-append lead (take at bytes)
      (take size (drop at bytes))

  -- The units of blocks so far, and one block more; and those behind the last block.
  pub block_more : (bytes : List ℕ) (block units one : ℕ) → units ≡ sum_by lead (take (32 * block) bytes)
      → one ≡ sum_by lead (take 32 (drop (32 * block) bytes)) → units + one
      ≡ sum_by lead (take (32 * (block + 1)) bytes)
  block_more bytes block units one before here =
      grind (arith, common_steps, sum_by, (sum_block bytes (32 * block) 32))

  pub blocks_all : (bytes : List ℕ) (block blocks units rest : ℕ) → block ≡ blocks
      → units ≡ sum_by lead (take (32 * block) bytes) →
      rest ≡ sum_by lead (take (length bytes - 32 * blocks) (drop (32 * blocks) bytes)) → units + rest
      ≡ sum_by lead bytes
  blocks_all bytes block blocks units rest same before rest_after =
      grind (arith, common_steps, sum_by, sum_by-take-drop, take_rest)
