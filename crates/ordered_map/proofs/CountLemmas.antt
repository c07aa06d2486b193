-- Counts of blocks, as slots change.
use Rattle.ordered_map.proofs.Prelude.{◌≡◌, ◌≤◌, ◌<◌, ◌+◌, ◌-◌, ◌*◌, ◌/◌, ℕ, List, [], ◌∷◌, ◌++◌, length, set, min, slice_get, slice_index, Option, Some, None, arith, ⊎_elim, length-append, length-set, get_or-set_same, get_or-set_other, get_or_append_left, get_or_push, cases_eq, cases_lt, le-ltb, lt-ltb, slice_get_within, AreCounted, counted_last, live_to, somes, common_steps}
use Rattle.ordered_map.proofs.SlotLemmas.{live_next, live_gap, live_past, live_rises, live_taken_after, live_taken_before, live_put_before, live_put_after, live_all}
use Rattle.std.proofs.lemmas.Grind.{common_steps}

module _ {X : Type 0} where
  pub count_small : (items : List (Option X)) (counts : List ℕ) (block : ℕ) → AreCounted items counts
      → block < length counts → slice_index counts block ≤ 256
  count_small items counts block counted within =
      omega (arith, counted.each block within, live_gap items (256 * block) (256 * (block + 1)) (omega arith))

  -- a block with an item begins within the slots
  pub block_begins : (items : List (Option X)) (counts : List ℕ) (block : ℕ) → AreCounted items counts
      → block < length counts → 0 < slice_index counts block → 256 * block < length items
  block_begins items counts block counted within some = grind (arith, common_steps, live_past, cases_lt)

  -- each slot is in a block
  pub block_within : (items : List (Option X)) (counts : List ℕ) (slot : ℕ) → AreCounted items counts
      → slot < length items → slot / 256 < length counts
  block_within items counts slot counted within = omega (arith, counted.enough, within)

  -- the block of an item has one
  pub block_has : (items : List (Option X)) (counts : List ℕ) (slot : ℕ) (item : X) → AreCounted items counts
      → slice_get items slot ≡ Some (Some item) → 0 < slice_index counts (slot / 256)
  block_has items counts slot item counted at =
      let within : slot < length items = slice_get_within items slot (Some item) at in
      let begins = live_rises items (256 * (slot / 256)) slot (omega arith) in
      let ends = live_rises items (slot + 1) (256 * (slot / 256 + 1)) (omega arith) in
      omega (arith, begins, ends, live_next items slot (Some item) at)

  -- ---- an item is taken out

  pub taken_counted : (items : List (Option X)) (counts : List ℕ) (slot : ℕ) (item : X) → AreCounted items counts
      → slice_get items slot ≡ Some (Some item)
      → AreCounted (set items slot None) (set counts (slot / 256) (slice_index counts (slot / 256) - 1))
  taken_counted items counts slot item counted at =
      let within : slot < length items = slice_get_within items slot (Some item) at in
      let block_is : slot / 256 < length counts = block_within items counts slot counted within in
      let some : 0 < slice_index counts (slot / 256) = block_has items counts slot item counted at in
      record {
        enough = grind (arith, common_steps, length-set);
        each = λ block fits.
            let fits_before : block < length counts =
            omega (arith, fits, length-set counts (slot / 256) (slice_index counts (slot / 256) - 1)) in
            let was : live_to items (256 * (block + 1)) ≡ live_to items (256 * block) + slice_index counts block =
            counted.each block fits_before in
            ⊎_elim
            (λ (same : block ≡ slot / 256).
            grind (arith, common_steps, get_or-set_same, live_taken_after, live_taken_before))
            (λ (other : block ≡ slot / 256 → ⊥).
            let count = get_or-set_other counts (slot / 256) block (slice_index counts (slot / 256) - 1) 0 other in
            ⊎_elim
            (λ (before : block < slot / 256).
            grind (arith, common_steps, live_taken_before))
            (λ (after : slot / 256 ≤ block).
            let later : slot / 256 < block = omega (arith, after, other) in
            omega (
              arith,
              count,
              was,
              live_taken_after items slot item (256 * (block + 1)) at (omega (arith, later)),
              live_taken_after items slot item (256 * block) at (omega (arith, later)),
            ))
            (cases_lt block (slot / 256)))
            (cases_eq block (slot / 256));
      }

  -- ---- an item is put in last

  pub put_counted : (items : List (Option X)) (counts : List ℕ) (item : X) → AreCounted items counts
      → length items / 256 < length counts → AreCounted (items ++ Some item ∷ [])
      (set counts (length items / 256) (slice_index counts (length items / 256) + 1))
  put_counted items counts item counted block_is =
      grind (
        arith,
        common_steps,
        length-append,
        length-set,
        get_or-set_same,
        live_put_after,
        live_put_before,
        get_or-set_other,
        cases_lt,
        cases_eq,
      )

  pub put_counted_new : (items : List (Option X)) (counts : List ℕ) (item : X) → AreCounted items counts
      → length counts ≤ length items / 256 → AreCounted (items ++ Some item ∷ []) (counts ++ 1 ∷ [])
  put_counted_new items counts item counted full =
      grind (
        arith,
        common_steps,
        length-append,
        get_or_append_left,
        live_put_before,
        get_or_push,
        live_put_after,
        live_past,
        cases_lt,
      )

  -- ---- each slot has an item

  live_min : (items : List (Option X)) (bound : ℕ) → length (somes items) ≡ length items → live_to items bound
      ≡ min bound (length items)
  live_min items bound all = grind (arith, common_steps, live_all, live_past, cases_lt)

  pub all_counted : (items : List (Option X)) (counts : List ℕ) → length (somes items) ≡ length items
      → length items ≤ 256 * length counts
      → ((block : ℕ) → block < length counts → slice_index counts block ≡ min 256 (length items - 256 * block))
      → AreCounted items counts
  all_counted items counts all enough are = grind (arith, common_steps, live_min)

  pub last_counted : (items : List (Option X)) (counts : List ℕ) (item : X) → AreCounted items counts
      → AreCounted (items ++ Some item ∷ []) (counted_last counts (length items))
  last_counted items counts item counted =
      grind (arith, common_steps, lt-ltb, put_counted, le-ltb, put_counted_new, cases_lt)
