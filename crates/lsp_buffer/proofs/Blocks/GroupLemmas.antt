-- Groups of blocks.
use Rattle.lsp_buffer.proofs.Prelude.{ℕ, ◌≡◌, ◌+◌, ◌-◌, ◌*◌, ◌/◌, ◌<◌, ◌≤◌, ◌⊎◌, List, [], ◌∷◌, ◌++◌, length, take, drop, set, ⊎_elim, inl, inr, sym, ap, ◌∙◌, arith, subst, concat, cases_lt, drop-set-add, drop-set-lt, drop-take, get_or-append_right, get_or-set_other, get_or-set_same, get_or-take, get_or_append_left, length-append, length-set, length-take, length-take-le, take-append-le, take-set-le, take-take, Counts, AreBlocks, AreGroups, counts_of, AreFull, common_steps}
use Rattle.lsp_buffer.proofs.Blocks.CountLemmas.{some_full, some_low}
use Rattle.std.proofs.lemmas.Grind.{common_steps}

-- One group more.
pub groups_more : (blocks : List (List ℕ)) (groups now : List Counts) (counts : Counts) → AreGroups blocks groups
    → 32 * (length groups + 1) < length blocks
    → counts ≡ counts_of (concat (take 32 (drop (32 * length groups) blocks))) → now ≡ groups ++ counts ∷ []
    → AreGroups blocks now
groups_more blocks groups now counts are more is now_is =
    subst (AreGroups blocks) (sym now_is)
    (record {
      within = omega (arith, more, length-append groups (counts ∷ []));
      counts = λ g h.
          ⊎_elim
          (λ (earlier : g < length groups). grind (arith, common_steps, get_or_append_left, counts_of))
          (λ (later : length groups ≤ g).
          grind (arith, common_steps, length-append, get_or-append_right))
          (cases_lt g (length groups));
    })

-- The blocks of a group, as a slice of the blocks has them.
module _ (blocks : List (List ℕ)) (are : AreBlocks blocks) (size : length (concat blocks) ≤ 2147483648) (group : ℕ)
    (within : 32 * group + 32 < length blocks) where
  count : 32 ≡ 32 * group + 32 - 32 * group
  count = omega arith

  pub slice_full : AreFull (take (32 * group + 32 - 32 * group) (drop (32 * group) blocks))
  slice_full = subst (λ (n : ℕ). AreFull (take n (drop (32 * group) blocks))) count
      (some_full blocks are (32 * group) 32 within)

  pub slice_small : length (concat (take (32 * group + 32 - 32 * group) (drop (32 * group) blocks))) ≤ 2147483648
  slice_small = grind (arith, common_steps, some_low)

  pub slice_counts : (counts : Counts) → counts ≡ counts_of (concat (take (32 * group + 32 - 32 * group)
      (drop (32 * group) blocks))) → counts ≡ counts_of (concat (take 32 (drop (32 * group) blocks)))
  slice_counts counts is = is ∙ ap (λ (n : ℕ). counts_of (concat (take n (drop (32 * group) blocks)))) (sym count)

-- The blocks of a group that another block isn't in.
other_group : (blocks : List (List ℕ)) (index : ℕ) (block : List ℕ) (from : ℕ) → (index < from) ⊎ (from + 32 ≤ index)
    → take 32 (drop from (set blocks index block)) ≡ take 32 (drop from blocks)
other_group blocks index block from =
    ⊎_elim
    (λ (h : index < from). ap (take 32) (drop-set-lt from blocks index block h))
    (λ (h : from + 32 ≤ index).
    ap (λ i. take 32 (drop from (set blocks i block))) (let e : index ≡ from + (index - from) = omega (arith, h) in e) ∙
    (ap (take 32) (drop-set-add from blocks (index - from) block)
    ∙ take-set-le 32 (drop from blocks) (index - from) block (omega (arith, h))))

module _ (blocks : List (List ℕ)) (groups : List Counts) (index : ℕ) (block : List ℕ)
    (are : AreGroups (set blocks index block) groups) where
  same_group : (g : ℕ) → (g < index / 32) ⊎ (index / 32 < g) → take 32 (drop (32 * g) (set blocks index block))
      ≡ take 32 (drop (32 * g) blocks)
  same_group g = grind (arith, common_steps, other_group, inr, inl)

  pub groups_within : index / 32 < length groups → 32 * (index / 32) + 32 < length blocks
  groups_within inside = omega (arith, are.within, length-set blocks index block, inside)

  pub groups_same : length groups ≤ index / 32 → AreGroups blocks groups
  groups_same past = record {
    within = omega (arith, are.within, length-set blocks index block);
    counts = λ g h. are.counts g h ∙ ap (λ bs. counts_of (concat bs)) (same_group g (inl (omega (arith, h, past))));
  }

  pub groups_set : (group : ℕ) (counts : Counts) (now : List Counts) → group ≡ index / 32 → group < length groups
      → counts ≡ counts_of (concat (take 32 (drop (32 * group) blocks))) → now ≡ set groups group counts
      → AreGroups blocks now
  groups_set group counts now group_is within is now_is =
      subst (AreGroups blocks) (sym now_is)
      (record {
        within = omega (arith, are.within, length-set blocks index block, length-set groups group counts);
        counts = λ g h.
            ⊎_elim
            (λ (less : g < group).
            grind (arith, common_steps, get_or-set_other, same_group, inl))
            (λ (least : group ≤ g).
            grind (arith, common_steps, get_or-set_other, same_group, inr, get_or-set_same, (cases_lt group g)))
            (cases_lt g group);
      })

-- The first blocks stay.
pub groups_front : (blocks more : List (List ℕ)) (groups now : List Counts) (first : ℕ) → AreGroups blocks groups
    → first ≤ length blocks → 0 < length more → now ≡ take (first / 32) groups
    → AreGroups (take first blocks ++ more) now
groups_front blocks more groups now first are within some now_is =
    subst (AreGroups (take first blocks ++ more)) (sym now_is)
    (grind (arith, common_steps, length-append, front_length, length-take, get_or-take, front_same))
  where
    front_length : length (take first blocks) ≡ first
    front_length = length-take-le first blocks within

    front_same : (from : ℕ) → from + 32 ≤ first → take 32 (drop from blocks)
        ≡ take 32 (drop from (take first blocks ++ more))
    front_same from h =
        sym (drop-take from 32 blocks) ∙
        (ap (drop from) (grind (arith, common_steps, take-take, take-append-le, front_length)) ∙
        drop-take from 32 (take first blocks ++ more))
