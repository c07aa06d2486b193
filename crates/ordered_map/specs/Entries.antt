-- An ordered map as callers see it: the list of its entries, and the number of slots.
use Rattle.std.specs.Prelude.{ℕ, zero, suc, Bool, List, [], ◌∷◌, Option, String, option_map, string_bytes}
use Rattle.std.specs.Str.{bytes_eq}
use Rattle.std.specs.declared.alloc.Global.{Global}

pub record Entries (V : Type 0) : Type 0 where
  -- The keys with their values, in order of insertion.
  pub entries : List (String Global × V)
  -- How many slots there are, those of entries and those that are vacant.
  pub slots : ℕ

-- The entry of a slot.
abbrev pub slot_entry : {V : Type 0} → String Global × Option V → Option (String Global × V)
slot_entry content = option_map (λ value. (content.0, value)) content.1

-- A key has these bytes.
abbrev pub is_key : List ℕ → String Global → Bool
is_key bytes key = bytes_eq bytes (string_bytes key)

module _ {V : Type 0} where
  -- The entries, with another value at an index.
  abbrev pub set_value_at : List (String Global × V) → ℕ → V → List (String Global × V)
  set_value_at [] index value = []
  set_value_at (entry ∷ entries) zero value = (entry.0, value) ∷ entries
  set_value_at (entry ∷ entries) (suc index) value = entry ∷ set_value_at entries index value

  -- The map with another value at an index.
  abbrev pub with_value_at : Entries V → ℕ → V → Entries V
  with_value_at ordered index value
      = record { entries = set_value_at ordered.entries index value; slots = ordered.slots }
