-- What the calls of a map make of its slots.
use Rattle.ordered_map.proofs.Prelude.{◌≡◌, ◌≤◌, ◌<◌, ◌+◌, ◌-◌, ◌*◌, ℕ, zero, suc, List, [], ◌∷◌, ◌++◌, length, map, min, filter, position, slice_index_or as get_or, slice_get, slice_index, slice_index_or, is_some, option_map, Bor, Option, Some, None, String, refl, sym, ap, ◌∙◌, arith, one-add, zero-add, append-nil, get_or_default, length-append, length-set, length_push, map-append, deref_pair, remove_entry, Global, AreCounted, IsOrderedMap, counted_last, has_key, here, live_to, somes, uncounted, vacated, with_value, with_value_in, common_steps}
use Rattle.ordered_map.specs.Entries.{Entries, is_key, set_value_at, slot_entry, with_value_at}
use Rattle.ordered_map.proofs.CountLemmas.{all_counted, count_small, last_counted, taken_counted}
use Rattle.ordered_map.proofs.FindLemmas.{found, missing}
use Rattle.ordered_map.proofs.SlotLemmas.{packed_all, packed_short, packed_somes, somes-append, somes_taken}

module _ {V : Type 0} where
  -- ---- an entry that is read

  pub record IsSeen (entry : Option (Bor (String Global) × Bor V)) (is : String Global × V) : Type 0 where
    pub key_is : option_map (λ (pair : Bor (String Global) × Bor V). pair.0.now) entry ≡ Some is.0
    pub value_is : option_map (λ (pair : Bor (String Global) × Bor V). pair.1.now) entry ≡ Some is.1

  pub seen : (entry : Option (Bor (String Global) × Bor V)) (is : String Global × V)
      → option_map deref_pair entry ≡ Some is → IsSeen entry is
  seen None is same = absurd (cc)
  seen (Some pair) is same = record { key_is = grind (arith, common_steps); value_is = grind (arith, common_steps) }

  -- ---- an entry that is written

  live_written : (items : List (Option (String Global × V))) (slot : ℕ) (value : V) (bound : ℕ)
      → live_to (with_value_in items slot value) bound ≡ live_to items bound
  live_written (item ∷ items) zero value zero = refl
  live_written (None ∷ items) zero value (suc bound) = refl
  live_written (item ∷ items) (suc slot) value (suc bound) =
      ap (λ n. here item + n) (live_written items slot value bound)
  live_written _ _ value _ = refl

  somes_written : (items : List (Option (String Global × V))) (slot : ℕ) (entry : String Global × V) (value : V)
      → slice_get items slot ≡ Some (Some entry)
      → somes (with_value_in items slot value) ≡ set_value_at (somes items) (live_to items slot) value
  somes_written (Some first ∷ items) zero entry value at = refl
  somes_written (None ∷ items) (suc slot) entry value at = rw zero-add (somes_written items slot entry value at)
  somes_written (Some first ∷ items) (suc slot) entry value at =
      rw one-add (ap (λ rest. first ∷ rest) (somes_written items slot entry value at))
  somes_written _ _ entry value at = absurd (cc)

  pub view_written : (items : List (Option (String Global × V))) (slot index : ℕ)
      (entry : String Global × V) (value : V) → slice_get items slot ≡ Some (Some entry) → live_to items slot ≡ index
      → ◌≡◌ {A = Entries V}
      (record { entries = somes (with_value_in items slot value); slots = length (with_value_in items slot value) })
      (with_value_at (record { entries = somes items; slots = length items }) index value)
  view_written items slot index entry value at is = grind (arith, common_steps, length-set, somes_written)

  length_written : (items : List (Option (String Global × V))) (slot : ℕ) (value : V)
      → length (somes (with_value_in items slot value)) ≡ length (somes items)
  length_written (None ∷ items) (suc slot) value = length_written items slot value
  length_written (Some entry ∷ items) (suc slot) value = ap suc (length_written items slot value)
  length_written _ _ value = refl

  pub written_map : (items : List (Option (String Global × V))) (counts : List ℕ) (live : ℕ)
      → IsOrderedMap items counts live → (slot : ℕ) (value : V)
      → IsOrderedMap (with_value_in items slot value) counts live
  written_map items counts live is slot value = record {
    counted = grind (arith, common_steps, length-set, live_written);
    live_is = is.live_is ∙ sym (length_written items slot value);
    few = omega (arith, is.few, length-set items slot (with_value (get_or items slot None) value));
  }

-- ---- slots that are packed

module _ {X : Type 0} where
  pub packed_counted : (items : List (Option X)) (counts : List ℕ) → AreCounted items counts
      → (after : List (Option X)) (counted : List ℕ) → after ≡ filter is_some items → length counted ≡ length counts
      → ((block : ℕ) → block < length counted → slice_index counted block ≡ min 256 (length after - 256 * block))
      → AreCounted after counted
  packed_counted items counts is after counted kept same are =
      let all : length (somes after) ≡ length after = rw kept (packed_all items) in
      let short : length after ≤ length items = rw kept (packed_short items) in
      all_counted after counted all (omega (arith, short, same, is.enough)) are

  pub packed_full : (items after : List (Option X)) → after ≡ filter is_some items → length after ≡ length (somes items)
  packed_full items after kept = rw kept (sym (packed_all items) ∙ ap length (packed_somes items))

-- ---- an entry that is put in last, and out of the slot where its key was

module _ {X : Type 0} where
  -- The slot that has an item no more is counted no more, and one more item is.
  pub record IsFreed (items : List (Option X)) (was : Option ℕ) (counts : List ℕ) (live : ℕ) : Type 0 where
    pub counted : AreCounted (vacated items was) counts
    pub live_is : live ≡ length (somes (vacated items was)) + 1

  pub freed_some : (items : List (Option X)) (counts : List ℕ) (live slot : ℕ) (item : X)
      → IsOrderedMap items counts live → slice_get items slot ≡ Some (Some item)
      → IsFreed items (Some slot) (uncounted counts slot) live
  freed_some items counts live slot item is at = record {
    counted = taken_counted items counts slot item is.counted at;
    live_is = omega (arith, is.live_is, somes_taken items slot item at);
  }

  pub freed_none : (items : List (Option X)) (counts : List ℕ) (live : ℕ) → IsOrderedMap items counts live
      → IsFreed items None counts (live + 1)
  freed_none items counts live is = record { counted = is.counted; live_is = omega (arith, is.live_is) }

  module _ (items : List (Option X)) (was : Option ℕ) (counts : List ℕ) (live : ℕ)
      (freed : IsFreed items was counts live) where
    pub freed_small : (block default : ℕ) → block < length counts → slice_index_or counts block default ≤ 256
    freed_small block default within =
        let small = count_small (vacated items was) counts block freed.counted within in
        omega (arith, small, get_or_default counts block default 0 within)

    pub freed_counted : (item : X) (len : ℕ) → len ≡ length items
        → AreCounted (vacated items was ++ Some item ∷ []) (counted_last counts len)
    freed_counted item len is = grind (arith, common_steps, last_counted, length-set)

    pub freed_live : (item : X) → live ≡ length (somes (vacated items was ++ Some item ∷ []))
    freed_live item =
        rw somes-append (omega (arith, freed.live_is, length-append (somes (vacated items was)) (item ∷ [])))

module _ {V : Type 0} where
  pub put_entries : (bytes : List ℕ) (items : List (Option (String Global × V))) (was : Option ℕ)
      (entry : String Global × V) → was ≡ position (has_key bytes) items
      → somes (vacated items was ++ Some entry ∷ []) ≡ remove_entry (is_key bytes) (somes items) ++ entry ∷ []
  put_entries bytes items was entry is =
      somes-append (vacated items was) (Some entry ∷ []) ∙ ap (λ rest. rest ++ entry ∷ []) (by was is)
    where
      by : (was : Option ℕ) → was ≡ position (has_key bytes) items
          → somes (vacated items was) ≡ remove_entry (is_key bytes) (somes items)
      by None none = sym (missing bytes items (sym none)).removed
      by (Some slot) some = sym (found bytes items slot (sym some)).removed

-- ---- the last slot of some

module _ {V : Type 0} where
  last_slot : (slots : List (String Global × Option V)) (last : String Global × Option V)
      → somes (map slot_entry (slots ++ last ∷ [])) ≡ somes (map slot_entry slots) ++ somes (slot_entry last ∷ [])
  last_slot slots last = grind (arith, common_steps, map-append, somes-append)

  -- the last slot has an entry, of so many
  pub record HasLast (rest : List (String Global × Option V)) (left : ℕ) (entry : String Global × V)
      (all : List (String Global × V)) : Type 0 where
    pub some : 1 ≤ left
    pub counted : left - 1 ≡ length (somes (map slot_entry rest))
    pub steps : all ≡ somes (map slot_entry rest) ++ entry ∷ []
    pub shorter : length (somes (map slot_entry rest)) < length all

  module _ (slots rest : List (String Global × Option V)) (left : ℕ) (all : List (String Global × V))
      (counted : left ≡ length (somes (map slot_entry slots))) (are : somes (map slot_entry slots) ≡ all)
      (last : String Global × Option V) (split : slots ≡ rest ++ last ∷ []) where
    pub last_live : (entry : String Global × V) → slot_entry last ≡ Some entry → HasLast rest left entry all
    last_live entry is = grind (arith, common_steps, last_slot, length_push)

    pub last_vacant : slot_entry last ≡ None → somes (map slot_entry rest) ≡ all
    last_vacant is = grind (arith, common_steps, append-nil, last_slot)
