use Rattle.ordered_map.proofs.Prelude.{◌∙◌, Some, None, ap, slice_get, sym, get_or_from_slice_get, somes}
use Rattle.ordered_map.proofs.SlotLemmas.{somes_at}
use Rattle.ordered_map.proofs.map.OrderedMap.get_index.Goals as goal

pub returns : goal.returns
returns g c =
    let live = c.in_ok-slot.ensures.found in
    record {
      entry =
          rw (← c.self.view_is)
          (c.entry.ensures
          ∙ (get_or_from_slice_get c.self.inside.slots c.in_ok-slot.slot (Some live.item) None live.at
          ∙ sym (ap (slice_get (somes c.self.inside.slots)) (sym c.in_ok-slot.ensures.index)
          ∙ somes_at c.self.inside.slots c.in_ok-slot.slot live.item live.at)));
    }
