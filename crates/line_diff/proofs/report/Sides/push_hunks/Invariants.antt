use Rattle.line_diff.proofs.Prelude.{◌≡◌, ◌++◌, flat_map, take, hunk_words}
use Rattle.line_diff.proofs.report.Sides.push_hunks.Given as goal

abbrev pub invariant-loop-hunk : goal.invariant-loop-hunk
invariant-loop-hunk l =
    l.buffer.items ≡ l.fn.buffer.items ++ flat_map (hunk_words l.self) (take l.hunk-index l.found)
