use Rattle.lsp_client.proofs.Prelude.{◌≡◌, ◌∙◌, ap, sym, None, err_from_is_err_and, entry_at, command_refusal, ClientData, agreement}
use Rattle.lsp_client.proofs.SentLemmas.{order_sent, close_sent, long_refused, body_framed, may_close}
use Rattle.lsp_store.specs.Table as documents
use Rattle.lsp_client.proofs.client.Client.send_close.Goals as goal

pub returns-in_err-frame-clause-error : goal.returns-in_err-frame-clause-error
returns-in_err-frame-clause-error c =
    let s : ClientData = c.args.self.now in
    let limits : c.limits.result ≡ s.limits = c.limits.ensures ∙ ap (λ (x : ClientData). x.limits) c.self.view_is in
    let may : command_refusal s.limits s.table (documents.closes c.args.uri.now) ≡ None =
    may_close s.limits s.table c.args.uri.now c.in-Some.field-0 (sym c.in-Some.is ∙ c.get.ensures
    ∙ ap (λ (x : ClientData). entry_at x.table c.args.uri.now) c.self.view_is) in
    let p = err_from_is_err_and c.from_residual-in_err-frame.result c.from_residual-in_err-frame.ensures.1 in
    rw (p.1, p.2)
    (long_refused c.limits.result s (agreement s).kind (documents.closes c.args.uri.now) _ c.in_err-frame.field-0.0
    limits may
    (close_sent (agreement s).kind s.table _ c.args.uri.now c.in_ok-from_str.ensures.ok) c.in_err-frame.ensures.error)

pub returns-clause-ok : goal.returns-clause-ok
returns-clause-ok c =
    let s : ClientData = c.args.self.now in
    let limits : c.limits.result ≡ s.limits = c.limits.ensures ∙ ap (λ (x : ClientData). x.limits) c.self.view_is in
    let body = close_sent (agreement s).kind s.table _ c.args.uri.now c.in_ok-from_str.ensures.ok in
    order_sent c.self.inside.offers c.self.inside.phase c.self.inside.agreed c.self.inside.store c.close.new.self s
    (agreement s).kind (documents.closes c.args.uri.now) _
    c.self.view_is c.in_ok-close.ensures.taken
    (body_framed s (agreement s).kind (documents.closes c.args.uri.now) c.limits.result _ _ limits body
    c.in_ok-frame.ensures.within c.in_ok-frame.ensures.ok)
