use Rattle.lsp_message.specs.Seen.{change_view}
use Rattle.lsp_server.proofs.Changes.{accepted_on, accepted_step, answered_step}
use Rattle.lsp_server.proofs.server.Server.change.Goals as goal

pub commit_change-requires : goal.commit_change-requires
commit_change-requires c =
    (accepted_on c.args.self.now (change_view c.args.params.now) c.in_ok-plan.field-0 c.in-Accepted.plan
    c.in-Accepted.is c.in_ok-plan.ensures.planned).0

pub returns-in-Accepted : goal.returns-in-Accepted
returns-in-Accepted c =
    accepted_step c.args.self.now (change_view c.args.params.now) c.in_ok-plan.field-0 c.in-Accepted.plan
    c.commit_change.result c.commit_change.new.self c.in-Accepted.is c.requires c.in_ok-plan.ensures.planned
    c.commit_change.ensures.step

pub returns-in-Answered : goal.returns-in-Answered
returns-in-Answered c =
    answered_step c.args.self.now (change_view c.args.params.now) c.in_ok-plan.field-0 c.in-Answered.answer
    c.in-Answered.is c.requires c.in_ok-plan.ensures.planned
