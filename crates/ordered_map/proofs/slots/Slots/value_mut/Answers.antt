use Rattle.ordered_map.proofs.Prelude.{◌∙◌, refl, sym, common_steps, arith}
use Rattle.ordered_map.proofs.KeyLemmas.{live_value, value_at, written}
use Rattle.ordered_map.proofs.slots.Slots.value_mut.Goals as goal
use Rattle.std.proofs.lemmas.Grind.{common_steps}

pub value_there-requires : goal.value_there-requires
value_there-requires g c =
    live_value c.self.inside.indexed.entries c.args.slot c.index_mut.result.now c.index_mut.ensures.value
    (rw (← c.self.view_is) at c.requires.live)

pub returns : goal.returns
returns g c = (
  (
    refl,
    λ w. rw (← c.self.view_is) (written c.self.inside.indexed.entries c.args.slot w
        (rw (← c.self.view_is) at c.requires.live)),
  ),
  record {
    lends = tt;
    value = rw (← c.self.view_is) (sym (grind (arith, common_steps, value_at)) ∙ c.value_there.ensures.value);
  },
)
