use Rattle.ordered_map.proofs.Prelude.{◌≡◌, ◌+◌, ◌*◌, live_to}
use Rattle.ordered_map.proofs.counts.live_from.Given as goal

abbrev pub invariant-loop-slot : goal.invariant-loop-slot
invariant-loop-slot g l = live_to l.slots l.slot + l.left ≡ live_to l.slots (256 * l.block)
    + l.count
