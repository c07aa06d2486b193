use Rattle.line_diff.proofs.RepeatLemmas.{stack_first}
use Rattle.line_diff.proofs.repeats.last_of.Goals as goal

pub returns-in-Some : goal.returns-in-Some
returns-in-Some c = stack_first c.args.repeats.now c.in-Some._rest.now c.in-Some.last.now c.in-Some.ensures.cases.0
