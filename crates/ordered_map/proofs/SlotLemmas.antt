-- The items of slots, and how many there are.
use Rattle.ordered_map.proofs.Prelude.{◌≡◌, ◌≤◌, ◌<◌, ◌+◌, ℕ, zero, suc, true, false, List, [], ◌∷◌, ◌++◌, length, filter, slice_index_or as get_or, set, slice_get, is_some, Option, Some, None, refl, ap, arith, add-one, one-add, zero-add, slice_get-get_or, IsLive, here, live_to, somes, common_steps}

module _ {X : Type 0} where
  -- ---- the items

  pub somes_short : (items : List (Option X)) → length (somes items) ≤ length items
  somes_short [] = omega arith
  somes_short (None ∷ items) = omega (arith, somes_short items)
  somes_short (Some item ∷ items) = omega (arith, somes_short items)

  pub somes-append : (items others : List (Option X)) → somes (items ++ others) ≡ somes items ++ somes others
  somes-append [] others = refl
  somes-append (None ∷ items) others = somes-append items others
  somes-append (Some item ∷ items) others = ap (λ rest. item ∷ rest) (somes-append items others)

  -- ---- how many items the first slots have

  pub live_none : (items : List (Option X)) → live_to items 0 ≡ 0
  live_none [] = refl
  live_none (item ∷ items) = refl

  live_suc : (items : List (Option X)) (slot : ℕ) (item : Option X) → slice_get items slot ≡ Some item
      → live_to items (suc slot) ≡ live_to items slot + here item
  live_suc [] slot item at = absurd (cc)
  live_suc (first ∷ items) zero item at = grind (arith, common_steps, live_none)
  live_suc (first ∷ items) (suc slot) item at = grind (arith, common_steps, (live_suc items slot item at))

  pub live_next : (items : List (Option X)) (slot : ℕ) (item : Option X) → slice_get items slot ≡ Some item
      → live_to items (slot + 1) ≡ live_to items slot + here item
  live_next items slot item at = rw add-one (live_suc items slot item at)

  pub live_past : (items : List (Option X)) (bound : ℕ) → length items ≤ bound → live_to items bound
      ≡ length (somes items)
  live_past [] bound past = refl
  live_past (None ∷ items) zero past = absurd (omega (arith, past))
  live_past (Some item ∷ items) zero past = absurd (omega (arith, past))
  live_past (None ∷ items) (suc bound) past = omega (arith, live_past items bound (omega (arith, past)))
  live_past (Some item ∷ items) (suc bound) past = omega (arith, live_past items bound (omega (arith, past)))

  pub live_rises : (items : List (Option X)) (few many : ℕ) → few ≤ many → live_to items few ≤ live_to items many
  live_rises (item ∷ items) (suc few) zero less = absurd (omega (arith, less))
  live_rises (item ∷ items) (suc few) (suc many) less = omega (arith, live_rises items few many (omega (arith, less)))
  live_rises _ _ many less = omega arith

  pub live_below : (items : List (Option X)) (bound : ℕ) → live_to items bound ≤ bound
  live_below [] bound = omega arith
  live_below (item ∷ items) zero = omega arith
  live_below (None ∷ items) (suc bound) = omega (arith, live_below items bound)
  live_below (Some item ∷ items) (suc bound) = omega (arith, live_below items bound)

  -- later slots have at most one item each
  pub live_gap : (items : List (Option X)) (few many : ℕ) → few ≤ many → live_to items many + few ≤ live_to items few
      + many
  live_gap [] few many less = omega (arith, less)
  live_gap (item ∷ items) zero many less = omega (arith, live_below (item ∷ items) many)
  live_gap (item ∷ items) (suc few) zero less = absurd (omega (arith, less))
  live_gap (item ∷ items) (suc few) (suc many) less = omega (arith, live_gap items few many (omega (arith, less)))

  -- where each slot has an item
  pub live_all : (items : List (Option X)) (bound : ℕ) → length (somes items) ≡ length items → bound ≤ length items
      → live_to items bound ≡ bound
  live_all [] bound all within = omega (arith, within)
  live_all (item ∷ items) zero all within = refl
  live_all (None ∷ items) (suc bound) all within = absurd (omega (arith, all, somes_short items))
  live_all (Some item ∷ items) (suc bound) all within =
      omega (arith, live_all items bound (omega (arith, all)) (omega (arith, within)))

  pub all_live : (items : List (Option X)) (slot : ℕ) → length (somes items) ≡ length items → slot < length items
      → IsLive items slot
  all_live [] slot all within = absurd (omega (arith, within))
  all_live (None ∷ items) slot all within = absurd (omega (arith, all, somes_short items))
  all_live (Some first ∷ items) zero all within = record { item = first; at = refl }
  all_live (Some first ∷ items) (suc slot) all within = let rest =
      all_live items slot (omega (arith, all)) (omega (arith, within)) in record { item = rest.item; at = rest.at }

  pub live_read : (items : List (Option X)) (slot : ℕ) → slot < length items → is_some (get_or items slot None) ≡ true
      → IsLive items slot
  live_read items slot within some = grind (arith, common_steps, slice_get-get_or, is_some, slice_get)

  pub here_some : (item : Option X) → is_some item ≡ true → here item ≡ 1
  here_some None is = absurd (let bad : false ≡ true = is in cc)
  here_some (Some item) is = refl

  pub here_none : (item : Option X) → is_some item ≡ false → here item ≡ 0
  here_none None is = refl
  here_none (Some item) is = absurd (let bad : true ≡ false = is in cc)

  -- an item is in the list of items, after as many as there are before it
  pub somes_at : (items : List (Option X)) (slot : ℕ) (item : X) → slice_get items slot ≡ Some (Some item)
      → slice_get (somes items) (live_to items slot) ≡ Some item
  somes_at (Some first ∷ items) zero item at = let same : first ≡ item = cc in rw same refl
  somes_at (None ∷ items) (suc slot) item at = rw zero-add (somes_at items slot item at)
  somes_at (Some first ∷ items) (suc slot) item at = rw one-add (somes_at items slot item at)
  somes_at _ _ item at = absurd (cc)

  -- ---- an item that is taken out

  pub live_taken_after : (items : List (Option X)) (slot : ℕ) (item : X) (bound : ℕ) → slice_get items slot
      ≡ Some (Some item) → slot < bound → live_to (set items slot None) bound + 1 ≡ live_to items bound
  live_taken_after [] slot item bound at after = absurd (cc)
  live_taken_after (first ∷ items) slot item zero at after = absurd (omega (arith, after))
  live_taken_after (first ∷ items) zero item (suc bound) at after = let same : first ≡ Some item = cc in
      rw same (omega arith)
  live_taken_after (first ∷ items) (suc slot) item (suc bound) at after =
      omega (arith, live_taken_after items slot item bound at (omega (arith, after)))

  pub live_taken_before : (items : List (Option X)) (slot bound : ℕ) → bound ≤ slot
      → live_to (set items slot None) bound ≡ live_to items bound
  live_taken_before (first ∷ items) zero (suc bound) before = absurd (omega (arith, before))
  live_taken_before (first ∷ items) (suc slot) (suc bound) before =
      omega (arith, live_taken_before items slot bound (omega (arith, before)))
  live_taken_before _ _ _ before = refl

  pub somes_taken : (items : List (Option X)) (slot : ℕ) (item : X) → slice_get items slot ≡ Some (Some item)
      → length (somes (set items slot None)) + 1 ≡ length (somes items)
  somes_taken [] slot item at = absurd (cc)
  somes_taken (first ∷ items) zero item at = let same : first ≡ Some item = cc in rw same (omega arith)
  somes_taken (None ∷ items) (suc slot) item at = somes_taken items slot item at
  somes_taken (Some first ∷ items) (suc slot) item at = omega (arith, somes_taken items slot item at)

  -- ---- an item that is put in last

  pub live_put_before : (items : List (Option X)) (item : Option X) (bound : ℕ) → bound ≤ length items
      → live_to (items ++ item ∷ []) bound ≡ live_to items bound
  live_put_before [] item zero before = refl
  live_put_before [] item (suc bound) before = absurd (omega (arith, before))
  live_put_before (first ∷ items) item zero before = refl
  live_put_before (first ∷ items) item (suc bound) before =
      omega (arith, live_put_before items item bound (omega (arith, before)))

  pub live_put_after : (items : List (Option X)) (item : X) (bound : ℕ) → length items < bound
      → live_to (items ++ Some item ∷ []) bound ≡ live_to items bound + 1
  live_put_after [] item zero after = absurd (omega (arith, after))
  live_put_after [] item (suc bound) after = refl
  live_put_after (first ∷ items) item zero after = absurd (omega (arith, after))
  live_put_after (first ∷ items) item (suc bound) after =
      omega (arith, live_put_after items item bound (omega (arith, after)))

  -- ---- items that are packed

  pub packed_somes : (items : List (Option X)) → somes (filter is_some items) ≡ somes items
  packed_somes [] = refl
  packed_somes (None ∷ items) = packed_somes items
  packed_somes (Some item ∷ items) = ap (λ rest. item ∷ rest) (packed_somes items)

  pub packed_all : (items : List (Option X)) → length (somes (filter is_some items)) ≡ length (filter is_some items)
  packed_all [] = refl
  packed_all (None ∷ items) = packed_all items
  packed_all (Some item ∷ items) = ap suc (packed_all items)

  pub packed_short : (items : List (Option X)) → length (filter is_some items) ≤ length items
  packed_short [] = omega arith
  packed_short (None ∷ items) = omega (arith, packed_short items)
  packed_short (Some item ∷ items) = omega (arith, packed_short items)
