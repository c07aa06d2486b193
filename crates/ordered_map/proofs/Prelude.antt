-- What more than one proof of this crate imports, so that each names it by one line.
pub use Rattle.std.proofs.Common.{Bool, Bor, List, None, Option, Some, String, [], add-one, ap, arith, false, filter, get_or, is_some, length, map, min, one-add, option_map, position, refl, rules, set, slice_get, slice_index, slice_index_or, string_bytes, string_eq, subst, suc, sym, true, true≢false, zero, zero-add, ℕ, ⊎_elim, ◌*◌, ◌++◌, ◌+◌, ◌-◌, ◌/◌, ◌<◌, ◌∙◌, ◌∷◌, ◌≡◌, ◌≤◌}
pub use Rattle.std.proofs.lemmas.Bool.{cases_Bool, cases_eq, cases_lt, le-ltb, lt-ltb}
pub use Rattle.std.proofs.lemmas.Grind.{common_steps}
pub use Rattle.std.proofs.lemmas.List.{append-nil, get_or-set_other, get_or-set_same, get_or_append_left, get_or_default, get_or_past, get_or_push, length-append, length-map, length-set, length_push, map-append, map-set, set-append_left, set-get_or, with_items_is}
pub use Rattle.std.proofs.lemmas.List.Quantifiers.{position-Some}
pub use Rattle.std.proofs.lemmas.Option.{get_or_from_slice_get, none-some, slice_get-get_or, slice_get-map, slice_get_within, some_pair_parts}
pub use Rattle.std.specs.List.{IsDistinct, position_or_len, swap_remove}
pub use Rattle.std.specs.Map.{keys_of, lookup, lookup_key, remove_entry, values_of}
pub use Rattle.std.specs.Map.Iter.{deref_pair}
pub use Rattle.std.specs.Vec.{with_items}
pub use Rattle.std.specs.declared.alloc.Global.{Global}
pub use Rattle.indexmap.proofs.CallerLemmas.{filter-RetainsPairs, insert_entry-new}
pub use Rattle.ordered_map.specs.Entries.{Entries, is_key, slot_entry, with_value_at}
pub use Rattle.ordered_map.specs.inside.Slots.{AreCounted, IsLive, IsOnly, IsOrderedMap, counted_last, has_key, here, live_to, somes, uncounted, vacated, with_value, with_value_in}
