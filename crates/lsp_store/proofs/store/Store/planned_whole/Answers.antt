use Rattle.lsp_store.proofs.Prelude.{◌∙◌, ap, map, rules, w32, to_z-of_z, content_change, DocumentItem}
use Rattle.lsp_store.proofs.Messages.WholeLemmas.{whole_planned}
use Rattle.lsp_store.proofs.store.Store.planned_whole.Goals as goal

pub returns : goal.returns
returns c = λ uri version encoding batch q.
    whole_planned _ _ _ _ _ _ q _ (c.in_ok-text.ensures q.on) _
    (c.uri.ensures ∙ ap (λ (d : DocumentItem). d.uri) (c.planned_document-document.ensures q.on)) _
    (to_z-of_z w32 c.args.plan.now.version (search rules)) _
    (ap (map content_change) c.in_ok-changes.ensures.items)
