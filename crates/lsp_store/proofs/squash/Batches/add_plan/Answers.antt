use Rattle.lsp_store.proofs.Prelude.{◌∙◌, refl, ap, string_bytes, rules, w32, to_z-of_z, DocumentItem}
use Rattle.lsp_store.proofs.SquashLemmas.{plan_added, plan_at, reached_under}
use Rattle.lsp_store.proofs.squash.Batches.add_plan.Goals as goal

pub add_delta-requires-clause-reached : goal.add_delta-requires-clause-reached
add_delta-requires-clause-reached c =
    plan_at (string_bytes c.self.inside.uri) c.self.inside.limits c.self.inside.encoding c.self.inside.joined
    c.self.inside.version c.args.store.now c.args.plan.now c.requires.on c.document.inside.stored.now.text
    (ap (λ (e : DocumentItem). e.text) (c.document.view_is ∙ c.planned_document-document.ensures c.requires.on))
    (rw (← c.self.view_is) at (c.requires.reached c.requires.on))

pub add_delta-requires-clause-on : goal.add_delta-requires-clause-on
add_delta-requires-clause-on c =
    rw (ap (λ (e : DocumentItem). e.text) (c.document.view_is ∙ c.planned_document-document.ensures c.requires.on))
    c.requires.on.on

pub returns-clause-added : goal.returns-clause-added
returns-clause-added c = λ uri version encoding batch q.
    let added = plan_added (string_bytes c.self.inside.uri) encoding c.self.inside.joined c.add_delta.new.self
    c.self.inside.version _ c.args.store.now c.args.plan.now (to_z-of_z w32 c.args.plan.now.version (search rules))
    c.document.inside.stored.now.text
    (λ on. ap (λ (e : DocumentItem). e.text) (c.document.view_is ∙ c.planned_document-document.ensures on))
    (λ on. reached_under c.args.store.now.limits encoding (rw (← c.self.view_is) at (c.requires.reached on)))
    c.in_ok-add_delta.ensures.ok c.in_ok-add_delta.ensures.reached uri version batch q in
    rw (← c.self.view_is) (added.0, refl, refl, record { text = added.1.text; version = added.1.version })
