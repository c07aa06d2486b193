use Rattle.ordered_map.proofs.Prelude.{arith, common_steps}
use Rattle.ordered_map.proofs.CountLemmas.{block_begins}
use Rattle.ordered_map.proofs.SlotLemmas.{live_none, live_past}
use Rattle.ordered_map.proofs.counts.live_at.Goals as goal

pub loop-block-init : goal.loop-block-init
loop-block-init g c = rw live_none (omega arith)

pub live_from-requires : goal.live_from-requires
live_from-requires g c = grind (arith, common_steps, block_begins, c.requires)

pub returns-clause-none : goal.returns-clause-none
returns-clause-none g c = grind (arith, common_steps, live_past, c.loop-block.invariant, c.requires.enough)
