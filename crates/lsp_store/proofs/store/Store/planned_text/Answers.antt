use Rattle.lsp_store.proofs.Prelude.{sym}
use Rattle.lsp_store.proofs.Tables.PlanLemmas.{HasEntry, plan_text}
use Rattle.lsp_store.proofs.store.Store.planned_text.Goals as goal
use Rattle.std.proofs.lemmas.Result.{IfOk-weaker}

pub returns : goal.returns
returns c =
    let h : HasEntry c.self.inside.documents.entries c.args.plan.now.index c.in-Some.stored.now =
    record { key = c.in-Some.field-0-0.now; at = sym c.in-Some.ensures.entry } in
    IfOk-weaker c.text.result _ _
    (λ text is on. rw (plan_text c.self.inside.limits c.self.inside.documents.entries c.args.self.now c.self.view_is
    c.args.plan.now on c.in-Some.stored.now h) is)
    c.text.ensures
