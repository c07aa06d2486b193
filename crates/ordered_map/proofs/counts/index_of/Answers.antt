use Rattle.ordered_map.proofs.Prelude.{arith, sym}
use Rattle.ordered_map.proofs.SlotLemmas.{live_all}
use Rattle.ordered_map.proofs.counts.index_of.Goals as goal

pub returns-then-live-len : goal.returns-then-live-len
returns-then-live-len g c = sym (live_all c.args.slots.now c.args.slot (omega arith) (omega arith))
