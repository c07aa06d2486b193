use Rattle.line_diff.proofs.Prelude.{◌≡◌, ◌++◌, flat_map, take, later_number}
use Rattle.line_diff.proofs.report.push_numbers.Given as goal

abbrev pub invariant-loop-number : goal.invariant-loop-number
invariant-loop-number l =
    l.buffer.items ≡ l.initial.buffer.items ++ flat_map later_number (take l.number-index l.later)
