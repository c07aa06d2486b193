use Rattle.lsp_store.proofs.Prelude.{sym, ◌∙◌, rules, w32, to_z-of_z}
use Rattle.lsp_store.proofs.Tables.PlanLemmas.{HasEntry, plan_key, plan_text, planned_body}
use Rattle.lsp_store.proofs.store.Store.planned_batch.Goals as goal

pub returns : goal.returns
returns c = λ uri version encoding batch q.
    let h : HasEntry c.self.inside.documents.entries c.args.plan.now.index c.in-Some.stored.now =
    record { key = c.in-Some.uri.now; at = sym c.in-Some.ensures.entry } in
    planned_body _ _ _ _ _ _ q _ (plan_text c.self.inside.limits c.self.inside.documents.entries c.args.self.now
    c.self.view_is c.args.plan.now q.on c.in-Some.stored.now h)
    _ c.in_ok-batch.ensures
    _ (plan_key c.self.inside.limits c.self.inside.documents.entries c.args.self.now c.self.view_is c.args.plan.now q.on
    c.in-Some.stored.now h ∙ sym c.deref.ensures)
    _ (to_z-of_z w32 c.args.plan.now.version (search rules))
