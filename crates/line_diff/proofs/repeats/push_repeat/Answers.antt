use Rattle.line_diff.proofs.Prelude.{refl}
use Rattle.line_diff.proofs.RepeatLemmas.{stack_added}
use Rattle.line_diff.proofs.repeats.push_repeat.Goals as goal

pub returns-clause-added : goal.returns-clause-added
returns-clause-added c =
    rw c.in_ok-push.ensures.items
    (stack_added c.args.repeats.now.items c.args.number c.args.count _ c.requires refl refl)
