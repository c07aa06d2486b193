use Rattle.line_diff.proofs.Prelude.{◌≡◌, ◌++◌, ◌-◌, file_line_at, words_from}
use Rattle.line_diff.proofs.report.Sides.push_file_lines.Given as goal

abbrev pub invariant-loop-index : goal.invariant-loop-index
invariant-loop-index l =
    l.buffer.items ++ words_from (file_line_at l.self l.hunk) (l.hunk.other_end - l.index) l.index
    ≡ l.fn.buffer.items
    ++ words_from (file_line_at l.self l.hunk) (l.hunk.other_end - l.hunk.other_start) l.hunk.other_start
