use Rattle.lsp_buffer.proofs.Prelude.{◌≡◌, ◌-◌, ◌≤◌, take, drop, concat, counts_of}
use Rattle.lsp_buffer.proofs.find.before_of.Given as goal

abbrev pub invariant-loop-from : goal.invariant-loop-from
invariant-loop-from l = record {
  low : l.first.index ≤ l.from;
  high : l.from ≤ l.passed.index;
  tail_is : l.tail ≡ counts_of (concat (take (l.passed.index - l.from) (drop l.from l.blocks)));
}

abbrev pub decreases-loop-from : goal.decreases-loop-from
decreases-loop-from l = l.from
