use Rattle.ordered_map.proofs.Prelude.{◌≡◌, ◌+◌, ◌*◌, live_to}
use Rattle.ordered_map.proofs.counts.live_at.Given as goal

abbrev pub invariant-loop-block : goal.invariant-loop-block
invariant-loop-block g l = live_to l.slots (256 * l.block) + l.left ≡ l.index
