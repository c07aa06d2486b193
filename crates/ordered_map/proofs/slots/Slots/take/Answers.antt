use Rattle.ordered_map.proofs.Prelude.{◌∙◌, sym}
use Rattle.ordered_map.proofs.KeyLemmas.{taken, value_at}
use Rattle.ordered_map.proofs.slots.Slots.take.Goals as goal

pub returns-clause-value : goal.returns-clause-value
returns-clause-value g c =
    rw (← c.self.view_is)
    (c.take.ensures.value
    ∙ value_at c.self.inside.indexed.entries c.args.slot c.in_ok-get_index_mut.field-0.now
    (sym c.in_ok-get_index_mut.ensures.value))

pub returns-clause-slots : goal.returns-clause-slots
returns-clause-slots g c = rw (← c.self.view_is, c.take.ensures.after) (taken c.self.inside.indexed.entries c.args.slot)
