use Rattle.ordered_map.proofs.Prelude.{arith}
use Rattle.ordered_map.proofs.SlotLemmas.{somes_short}
use Rattle.ordered_map.proofs.map.pack_if_sparse.Goals as goal

pub overflow_sub-vacant : goal.overflow_sub-vacant
overflow_sub-vacant g c = omega (arith, c.requires.live, somes_short c.args.slots.now, c.len.ensures.len)
