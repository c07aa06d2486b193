use Rattle.laspidru.proofs.Prelude.{subst, IsBodyAnswer, EndData}
use Rattle.laspidru.proofs.ends.end_body.Goals as goal

pub returns-clause-answer : goal.returns-clause-answer
returns-clause-answer c =
    subst (λ (s : EndData). IsBodyAnswer s.stream.framing c.args.start c.copy_body.result c.args.out.now
    c.copy_body.new.out c.copy_body.new.copied)
    c.held.view_is c.copy_body.ensures.answer
