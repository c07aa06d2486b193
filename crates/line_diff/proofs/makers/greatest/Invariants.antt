use Rattle.line_diff.proofs.Prelude.{◌≡◌, ◌-◌, greatest, row_numbers, seconds}
use Rattle.line_diff.proofs.makers.greatest.Given as goal

abbrev pub invariant-steps : goal.invariant-steps
invariant-steps l =
    greatest l.named l.most (seconds (l.count - l._step) (row_numbers l.rest))
    ≡ greatest l.fn.named l.fn.most (seconds l.count (row_numbers l.row))
