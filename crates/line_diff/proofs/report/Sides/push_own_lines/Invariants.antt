use Rattle.line_diff.proofs.Prelude.{◌≡◌, ◌++◌, ◌-◌, own_line_at, words_from}
use Rattle.line_diff.proofs.report.Sides.push_own_lines.Given as goal

abbrev pub invariant-loop-index : goal.invariant-loop-index
invariant-loop-index l =
    l.buffer.items ++ words_from (own_line_at l.self l.hunk) (l.hunk.end - l.index) l.index
    ≡ l.fn.buffer.items ++ words_from (own_line_at l.self l.hunk) (l.hunk.end - l.hunk.start) l.hunk.start
