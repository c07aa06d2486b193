use Rattle.line_diff.proofs.Prelude.{◌≡◌, ◌++◌, drop, map, row_numbers, rows_of}
use Rattle.line_diff.proofs.makers.rows_of.Given as goal

abbrev pub invariant-loop-line : goal.invariant-loop-line
invariant-loop-line l =
    map row_numbers l.rows.items ++ rows_of (row_numbers l.rest) (drop l.line-index (map (λ line. line.now) l.lines))
    ≡ rows_of (row_numbers l.numbers) (map (λ line. line.now) l.lines)
