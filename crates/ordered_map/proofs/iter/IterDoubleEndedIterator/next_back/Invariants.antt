use Rattle.ordered_map.proofs.Prelude.{◌≡◌, length, map, slot_entry, somes}
use Rattle.ordered_map.proofs.iter.IterDoubleEndedIterator.next_back.Given as goal

-- only slots without an entry were passed over
abbrev pub invariant-loop-key : goal.invariant-loop-key
invariant-loop-key g l = record {
  left : l.self-inside.left ≡ length (somes (map slot_entry l.self-inside.slots));
  rest : somes (map slot_entry l.self-inside.slots) ≡ l.fn.self;
}

abbrev pub decreases-loop-key : goal.decreases-loop-key
decreases-loop-key g l = length l.self-inside.slots
