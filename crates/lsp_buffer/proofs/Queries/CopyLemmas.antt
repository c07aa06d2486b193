-- The bytes of a text from one on, which are copied chunk by chunk.
use Rattle.lsp_buffer.proofs.Prelude.{ℕ, ◌≡◌, ◌+◌, ◌-◌, ◌≤◌, List, ◌++◌, length, take, drop, min, sym, ap, ◌∙◌, arith, append_assoc, drop-append-le, drop-drop, drop_at, length-append, length-drop, length-take, length-take-le, take-append-drop, take_at, take-add, common_steps}
use borrow.Rule.Slice.PartMut.{put_mid}
use Rattle.std.proofs.lemmas.Grind.{common_steps}

-- The first bytes are copied, in place of as many of `old`.
pub record IsCopied (bytes old now : List ℕ) (start end copied : ℕ) : Type 0 where
  pub within : copied ≤ end
  pub is : now ≡ take copied (drop start bytes) ++ drop copied old

-- How many bytes are copied at the most.
pub record IsEnd (bytes old : List ℕ) (start end : ℕ) : Type 0 where
  pub room : end ≤ length old
  pub some : end ≤ length bytes - start

module _ (bytes old now chunk : List ℕ) (start end copied n : ℕ) (ends : IsEnd bytes old start end)
    (so_far : IsCopied bytes old now start end copied)
    (n_is : n ≡ min (length chunk) (length (take (end - copied) (drop copied now)))) where
  taken : length (take copied (drop start bytes)) ≡ copied
  taken = length-take-le copied (drop start bytes) (omega (arith, so_far.within, ends.some, length-drop start bytes))

  pub now_length : length now ≡ length old
  now_length = grind (arith, common_steps, length-append, length-drop)

  part_room : length (take (end - copied) (drop copied now)) ≡ end - copied
  part_room = omega (arith, length-take (end - copied) (drop copied now), length-drop copied now, now_length, ends.room)

  pub copied_few : copied + n ≤ end
  copied_few = omega (arith, n_is, part_room, so_far.within)

  back : drop copied now ≡ drop copied old
  back = ap (drop copied) so_far.is ∙ drop_at (take copied (drop start bytes)) (drop copied old) copied taken

  tail : drop n (take (end - copied) (drop copied now)) ++ drop (end - copied) (drop copied now) ≡ drop (copied + n) old
  tail =
      sym (grind (arith, common_steps, drop-append-le))
      ∙ (ap (drop n) (take-append-drop (end - copied) (drop copied now)) ∙ (ap (drop n) back ∙ drop-drop n copied old))

  module _ (chunk_is : chunk ≡ take (length chunk) (drop (start + copied) bytes)) where
    head : take copied now ++ take n chunk ≡ take (copied + n) (drop start bytes)
    head = grind (arith, common_steps, take_at, take-add)

    -- One chunk more.
    pub copied_more : (part : List ℕ) → part ≡ take n chunk ++ drop n (take (end - copied) (drop copied now))
        → IsCopied bytes old (put_mid copied (end - copied) now part) start end (copied + n)
    copied_more part part_is = record {
      within = copied_few;
      is =
          ap (λ (xs : List ℕ). take copied now ++ (xs ++ drop (end - copied) (drop copied now))) part_is
          ∙ (ap (λ (xs : List ℕ). take copied now ++ xs)
          (append_assoc (take n chunk) (drop n (take (end - copied) (drop copied now)))
          (drop (end - copied) (drop copied now)) ∙ ap (λ (xs : List ℕ). take n chunk ++ xs) tail)
          ∙ (sym (append_assoc (take copied now) (take n chunk) (drop (copied + n) old))
          ∙ ap (λ (xs : List ℕ). xs ++ drop (copied + n) old) head));
    }
