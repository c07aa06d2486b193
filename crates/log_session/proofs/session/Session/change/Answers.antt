use Rattle.log_session.proofs.Prelude.{◌≡◌, ap, refl, change_view, changed, answered, verdict_view, IsPlanOfChange}
use Rattle.lsp_server.specs.declared.planned.PlannedChange.TheVariants.{Accepted}
use Rattle.log_session.specs.declared.session.Verdict.TheVariants.{Answered}
use Rattle.log_session.proofs.Records.TakenLemmas.{accepted_witnessed, committed, planned_at}
use Rattle.log_session.proofs.session.Session.change.Goals as goal

pub returns-in_ok-answer-in-Accepted : goal.returns-in_ok-answer-in-Accepted
returns-in_ok-answer-in-Accepted g c =
    let p = change_view c.args.params.now in
    let server : c.self.inside.server ≡ c.args.self.now.server = ap (λ s. s.server) c.self.view_is in
    let change : IsPlanOfChange c.args.self.now.server p c.in-Accepted.plan =
    (planned_at server p {found = Accepted c.in-Accepted.plan} c.in_ok-plan.ensures.planned c.in-Accepted.is).1 in
    let answer = c.in_ok-answer-in-Accepted in
    let verdict : verdict_view (Answered answer.answer) ≡ answered changed = rw answer.ensures.answer refl in
    accepted_witnessed c.requires.running c.requires.known
    (committed c.args.self.now p c.requires.running c.requires.known c.in-Accepted.plan change _ verdict _
    c.self.view_is _ answer.ensures.committed _ c.one_more-self-inside.ensures _
    c.one_more-self-inside-in-Accepted.ensures) change.accepted
    c.in_ok-see-in-Accepted.ensures
