use Rattle.ordered_map.proofs.Prelude.{◌≡◌, ◌<◌, ◌-◌, ◌*◌, ℕ, min, slice_index}
use Rattle.ordered_map.proofs.counts.recount.Given as goal

abbrev pub invariant-loop-count : goal.invariant-loop-count
invariant-loop-count l = record {
  left : l.left ≡ l.live - 256 * l.count-index;
  done : (block : ℕ) → block < l.count-index → slice_index l.counts block ≡ min 256 (l.live - 256 * block);
}
