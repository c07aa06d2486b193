use Rattle.line_diff.proofs.Prelude.{◌-◌, arith, common_steps, row_numbers}
use Rattle.line_diff.proofs.NumberLemmas.{seconds_more, seconds_none}
use Rattle.line_diff.proofs.makers.greatest.Goals as goal

pub steps-preserved : goal.steps-preserved
steps-preserved c =
    let next = seconds_more c.args.count c.steps._step c.in-Some.number (row_numbers c.steps.rest)
    (omega arith) c.in-Some.ensures in
    grind (arith, common_steps, next, c.steps.invariant, c.after-rest.ensures, c.greater-most.ensures)

pub returns-in_default : goal.returns-in_default
returns-in_default c =
    let none = seconds_none (c.args.count - c.steps._step) (row_numbers c.steps.rest) c.in_default.ensures in
    let left = c.steps.invariant in
    rw none at left
