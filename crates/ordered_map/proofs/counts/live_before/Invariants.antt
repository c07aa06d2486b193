use Rattle.ordered_map.proofs.Prelude.{◌≡◌, ◌*◌, live_to}
use Rattle.ordered_map.proofs.counts.live_before.Given as goal

abbrev pub invariant-loop-block : goal.invariant-loop-block
invariant-loop-block g l = l.live ≡ live_to l.slots (256 * l.block)

abbrev pub invariant-loop-before : goal.invariant-loop-before
invariant-loop-before g l = l.live ≡ live_to l.slots l.before
