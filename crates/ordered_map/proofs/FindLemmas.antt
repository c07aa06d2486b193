-- What the slot of a key says of the entries.
use Rattle.ordered_map.proofs.Prelude.{◌≡◌, ◌<◌, ℕ, zero, suc, true, false, List, [], ◌∷◌, length, set, slice_index_or as get_or, slice_get, position, Option, Some, None, String, refl, ap, arith, lt-ltb, le-ltb, position-Some, slice_get_within, position_or_len, keys_of, lookup, lookup_key, remove_entry, Global, is_key, has_key, live_to, somes, common_steps}
use Rattle.std.proofs.lemmas.Map.Entries.{length-keys_of}
use Rattle.ordered_map.proofs.PositionLemmas.{none_passes}
use Rattle.ordered_map.proofs.SlotLemmas.{somes_at}

module _ {V : Type 0} (bytes : List ℕ) where
  -- What is found of a key whose entry is in a slot.
  pub record IsFound (items : List (Option (String Global × V))) (slot : ℕ) : Type 0 where
    pub entry : String Global × V
    pub at : slice_get items slot ≡ Some (Some entry)
    pub here : get_or items slot None ≡ Some entry
    pub within : slot < length items
    pub value : lookup (is_key bytes) (somes items) ≡ Some entry.1
    pub key : lookup_key (is_key bytes) (somes items) ≡ Some entry.0
    pub index : position_or_len (is_key bytes) (keys_of (somes items)) ≡ live_to items slot
    pub removed : remove_entry (is_key bytes) (somes items) ≡ somes (set items slot None)

  by_slot : (items : List (Option (String Global × V))) (slot : ℕ) → slot < length items
      → has_key bytes (get_or items slot None) ≡ true
      → ((other : ℕ) → other < slot → has_key bytes (get_or items other None) ≡ false) → IsFound items slot
  by_slot [] slot within passes fails = absurd (omega (arith, within))
  by_slot (None ∷ items) zero within passes fails = absurd (let bad : false ≡ true = passes in cc)
  by_slot (None ∷ items) (suc slot) within passes fails =
      let rest = by_slot items slot (omega (arith, within)) passes
      (λ other less. fails (suc other) (omega (arith, less))) in
      record {
        entry = rest.entry;
        at = rest.at;
        here = rest.here;
        within = within;
        value = rest.value;
        key = rest.key;
        index = omega (arith, rest.index);
        removed = rest.removed;
      }
  by_slot (Some first ∷ items) zero within passes fails =
      record {
        entry = first;
        at = refl;
        here = refl;
        within = within;
        value = rw passes refl;
        key = rw passes refl;
        index = rw passes refl;
        removed = rw passes refl;
      }
  by_slot (Some first ∷ items) (suc slot) within passes fails =
      let rest = by_slot items slot (omega (arith, within)) passes
      (λ other less. fails (suc other) (omega (arith, less))) in
      let not : is_key bytes first.0 ≡ false = fails 0 (omega arith) in
      record {
        entry = rest.entry;
        at = rest.at;
        here = rest.here;
        within = within;
        value = rw not rest.value;
        key = rw not rest.key;
        index = rw not (omega (arith, rest.index));
        removed = rw not (ap (λ more. first ∷ more) rest.removed);
      }

  pub found : (items : List (Option (String Global × V))) (slot : ℕ) → position (has_key bytes) items ≡ Some slot
      → IsFound items slot
  found items slot is = grind (arith, common_steps, position-Some, by_slot)

  -- What is found where no slot has an entry of the key.
  pub record IsMissing (entries : List (String Global × V)) : Type 0 where
    pub value : lookup (is_key bytes) entries ≡ None
    pub key : lookup_key (is_key bytes) entries ≡ None
    pub index : position_or_len (is_key bytes) (keys_of entries) ≡ length (keys_of entries)
    pub removed : remove_entry (is_key bytes) entries ≡ entries

  by_none : (items : List (Option (String Global × V)))
      → ((slot : ℕ) → has_key bytes (get_or items slot None) ≡ false) → IsMissing (somes items)
  by_none [] fails = record { value = refl; key = refl; index = refl; removed = refl }
  by_none (None ∷ items) fails =
      let rest = by_none items (λ slot. fails (suc slot)) in
      record { value = rest.value; key = rest.key; index = rest.index; removed = rest.removed }
  by_none (Some first ∷ items) fails =
      let rest = by_none items (λ slot. fails (suc slot)) in
      let not : is_key bytes first.0 ≡ false = fails 0 in
      record {
        value = rw not rest.value;
        key = rw not rest.key;
        index = rw not (omega (arith, rest.index));
        removed = rw not (ap (λ more. first ∷ more) rest.removed);
      }

  pub missing : (items : List (Option (String Global × V))) → position (has_key bytes) items ≡ None
      → IsMissing (somes items)
  missing items none = by_none items (none_passes (has_key bytes) items None refl none)

  -- ---- the index

  pub position_found : (items : List (Option (String Global × V))) (slot : ℕ) → IsFound items slot
      → position (is_key bytes) (keys_of (somes items)) ≡ Some (live_to items slot)
  position_found items slot is = grind (arith, common_steps, slice_get_within, somes_at, length-keys_of, lt-ltb)

  pub position_missing : (entries : List (String Global × V)) → IsMissing entries
      → position (is_key bytes) (keys_of entries) ≡ None
  position_missing entries is = rw (
    is.index,
    le-ltb (length (keys_of entries)) (length (keys_of entries)) (omega arith),
  ) refl
