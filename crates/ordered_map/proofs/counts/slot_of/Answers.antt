use Rattle.ordered_map.proofs.Prelude.{arith}
use Rattle.ordered_map.proofs.SlotLemmas.{all_live, live_all}
use Rattle.ordered_map.proofs.counts.slot_of.Goals as goal

pub returns-then-live-len-clause-found : goal.returns-then-live-len-clause-found
returns-then-live-len-clause-found g c = all_live c.args.slots.now c.args.index (omega arith) (omega arith)

pub returns-then-live-len-clause-index : goal.returns-then-live-len-clause-index
returns-then-live-len-clause-index g c = live_all c.args.slots.now c.args.index (omega arith) (omega arith)
