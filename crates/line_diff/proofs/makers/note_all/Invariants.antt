use Rattle.line_diff.proofs.Prelude.{◌≡◌, ◌-◌, row_numbers, seconds, with_numbers}
use Rattle.line_diff.proofs.makers.note_all.Given as goal

abbrev pub invariant-steps : goal.invariant-steps
invariant-steps l =
    with_numbers l.found.items (seconds (l.count - l._step) (row_numbers l.rest))
    ≡ with_numbers l.fn.found.items (seconds l.count (row_numbers l.row))
