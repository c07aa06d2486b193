use Rattle.lsp_client.proofs.Prelude.{◌≡◌, ◌∙◌, ap, sym, rules, w32, to_z, of_z, to_z-of_z, err_from_is_err_and, ClientData, open_order}
use Rattle.lsp_client.proofs.SentLemmas.{order_fault}
use Rattle.lsp_client.proofs.client.Client.open.Goals as goal

pub returns-in_err-send_open-in-Ready-clause-error : goal.returns-in_err-send_open-in-Ready-clause-error
returns-in_err-send_open-in-Ready-clause-error c =
    let version : to_z w32 (of_z w32 c.args.version) ≡ c.args.version = to_z-of_z w32 c.args.version (search rules) in
    let p = err_from_is_err_and c.from_residual.result c.from_residual.ensures.1 in
    rw (p.1, p.2)
    (order_fault c.args.self.now (open_order c.args.uri c.args.language c.args.version c.args.text)
    c.in_err-send_open-in-Ready.field-0.0 (sym (ap (λ (x : ClientData). x.phase) c.self.view_is) ∙ c.in-Ready.is)
    (rw version at c.in_err-send_open-in-Ready.ensures.error))
