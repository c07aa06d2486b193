-- What an ordered map ends as, where a `&mut` to one of its values is returned.
use Rattle.std.specs.Prelude.{ℕ, Option}
use Rattle.std.specs.Borrow.{Lends, LendsIf, Fml, RattleType, MutBor}
use Rattle.ordered_map.specs.Entries.{Entries, with_value_at}
use Rattle.ordered_map.specs.contracts.map.OrderedMap.{the_row}

module _ (V : RattleType) (ordered : MutBor (Entries V.Denot)) (index : ℕ) where
  -- Once the borrow ends, the index has the last value written through the reference.
  abbrev pub lends_value : MutBor V.Denot → Fml
  lends_value reference
      = Lends (the_row V) V ordered reference (with_value_at ordered.now index)

  -- Where there is a reference, the index has the last value written through it once the borrow
  -- ends; at `None` the map stays as it is.
  abbrev pub lends_get : Option (MutBor V.Denot) → Fml
  lends_get reference
      = LendsIf (the_row V) V ordered reference (with_value_at ordered.now index) ordered.now
