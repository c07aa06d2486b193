use Rattle.ordered_map.proofs.Prelude.{common_steps, arith}
use Rattle.ordered_map.proofs.KeyLemmas.{only_slot}
use Rattle.ordered_map.proofs.slots.slot_of_key.Goals as goal

pub returns-clause-only : goal.returns-clause-only
returns-clause-only g c =
    grind (arith, common_steps, only_slot, c.get_index_of.ensures.unique, c.get_index_of.ensures.index)
