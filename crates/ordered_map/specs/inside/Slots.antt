-- The slots of an ordered map, and how many slots of each block have an entry.
use Rattle.std.specs.Prelude.{ℕ, ◌≡◌, ◌+◌, ◌-◌, ◌*◌, ◌/◌, ◌<◌, ◌≤◌, ◌++◌, if◌then◌else◌, nat_lt, zero, suc, Bool, true, false, List, [], ◌∷◌, length, filter_map, get_or, set, slice_get, slice_index, Option, Some, None, String}
use Rattle.std.specs.declared.alloc.Global.{Global}
use Rattle.ordered_map.specs.Entries.{is_key}

-- No other slot has a key with these bytes.
pub record IsOnly {V : Type 0} (bytes : List ℕ) (slots : List (String Global × Option V))
    (slot : ℕ) : Type 0 where
  pub only : (other : ℕ) (content : String Global × Option V) → slice_get slots other ≡ Some content
      → is_key bytes content.0 ≡ true → other ≡ slot

module _ {V : Type 0} where
  -- The entry of a slot has a key with these bytes.
  abbrev pub has_key : List ℕ → Option (String Global × V) → Bool
  has_key bytes None = false
  has_key bytes (Some entry) = is_key bytes entry.0

  -- The entry of a slot, with another value.
  abbrev pub with_value : Option (String Global × V) → V → Option (String Global × V)
  with_value None value = None
  with_value (Some entry) value = Some (entry.0, value)

  -- The slots, with another value in one that has an entry.
  abbrev pub with_value_in : List (Option (String Global × V)) → ℕ → V
      → List (Option (String Global × V))
  with_value_in items slot value = set items slot (with_value (get_or items slot None) value)

module _ {X : Type 0} where
  -- The items that are there.
  abbrev pub somes : List (Option X) → List X
  somes items = filter_map (λ item. item) items

  -- The items, without the one of a slot.
  abbrev pub vacated : List (Option X) → Option ℕ → List (Option X)
  vacated items None = items
  vacated items (Some slot) = set items slot None

  -- How many items a slot has.
  abbrev pub here : Option X → ℕ
  here None = 0
  here (Some item) = 1

  -- How many of the slots before a bound have an item.
  abbrev pub live_to : List (Option X) → ℕ → ℕ
  live_to [] bound = 0
  live_to (item ∷ items) zero = 0
  live_to (item ∷ items) (suc bound) = here item + live_to items bound

  -- There is an item in a slot.
  pub record IsLive (items : List (Option X)) (slot : ℕ) : Type 0 where
    pub item : X
    pub at : slice_get items slot ≡ Some (Some item)

  -- Each count is of a block of 256 slots, and no slot is after the last block.
  pub record AreCounted (items : List (Option X)) (counts : List ℕ) : Type 0 where
    pub enough : length items ≤ 256 * length counts
    pub each : (block : ℕ) → block < length counts
        → live_to items (256 * (block + 1))
        ≡ live_to items (256 * block) + slice_index counts block

  -- What holds of the parts of an ordered map.
  pub record IsOrderedMap (items : List (Option X)) (counts : List ℕ) (live : ℕ) : Type 0 where
    pub counted : AreCounted items counts
    pub live_is : live ≡ length (somes items)
    -- Few more slots are vacant than have an item.
    pub few : length items ≤ 2 * live + 64

-- The counts, once a slot after so many has an item.
abbrev pub counted_last : List ℕ → ℕ → List ℕ
counted_last counts len = if nat_lt (len / 256) (length counts)
    then set counts (len / 256) (slice_index counts (len / 256) + 1) else counts ++ 1 ∷ []

-- The counts, once the item of a slot is taken out.
abbrev pub uncounted : List ℕ → ℕ → List ℕ
uncounted counts slot = set counts (slot / 256) (slice_index counts (slot / 256) - 1)
