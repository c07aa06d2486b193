use Rattle.ordered_map.proofs.Prelude.{get_or_from_slice_get, slice_get-map, somes, common_steps}
use Rattle.std.proofs.Common.{◌∙◌, Option, String, Global, ap, option_map, refl, slice_get, sym, arith}
use Rattle.ordered_map.proofs.MapLemmas.{view_written, written_map}
use Rattle.ordered_map.proofs.SlotLemmas.{somes_at}
use Rattle.ordered_map.proofs.map.OrderedMap.value_mut.Goals as goal

pub invariant_of-self-lent : goal.invariant_of-self-lent
invariant_of-self-lent g c w =
    written_map c.self.inside.slots c.self.inside.counts.items c.self.inside.live c.self.invariant c.in-Some.slot w

pub returns : goal.returns
returns g c =
    let live = c.in-Some.ensures.found in (
      (
        refl,
        λ w. rw (← c.self.view_is)
            (view_written c.self.inside.slots c.in-Some.slot c.args.index live.item w live.at c.in-Some.ensures.index),
      ),
      record {
        writes_back = tt;
        value =
            rw (← c.self.view_is)
            (slice_get-map (λ (entry : String Global × g.row.V.Denot). entry.1) (somes c.self.inside.slots) c.args.index
            ∙ (ap (λ (entry : Option (String Global × g.row.V.Denot)). option_map
            (λ (pair : String Global × g.row.V.Denot). pair.1) entry)
            (ap (slice_get (somes c.self.inside.slots)) (sym c.in-Some.ensures.index)
            ∙ (grind (arith, common_steps, somes_at, get_or_from_slice_get)))
            ∙ c.value_mut.ensures.value));
      },
    )
