use Rattle.lsp_client.proofs.Prelude.{◌≡◌, ◌∙◌, ap, sym, rules, w32, to_z, of_z, to_z-of_z, err_from_is_err_and, ClientData, edit_order}
use Rattle.lsp_client.proofs.SentLemmas.{order_fault}
use Rattle.lsp_client.proofs.client.Client.edit.Goals as goal

pub returns-in_err-send_edit-in-Ready-clause-error : goal.returns-in_err-send_edit-in-Ready-clause-error
returns-in_err-send_edit-in-Ready-clause-error c =
    let version : to_z w32 (of_z w32 c.args.version) ≡ c.args.version = to_z-of_z w32 c.args.version (search rules) in
    let p = err_from_is_err_and c.from_residual.result c.from_residual.ensures.1 in
    rw (p.1, p.2)
    (order_fault c.args.self.now (edit_order c.args.uri.now c.args.version c.args.changes.now)
    c.in_err-send_edit-in-Ready.field-0.0 (sym (ap (λ (x : ClientData). x.phase) c.self.view_is) ∙ c.in-Ready.is)
    (rw version at c.in_err-send_edit-in-Ready.ensures.error))
