use Rattle.lsp_store.proofs.Prelude.{◌≡◌, ◌∙◌, map, ap, w32, to_z-of_z, err_from_is_err_and, frame, content_change, change_body}
use Rattle.lsp_store.proofs.Messages.MessageLemmas.{encode_refused}
use Rattle.lsp_store.proofs.store.canonical.change_frame.Goals as goal

pub returns-clause-framed : goal.returns-clause-framed
returns-clause-framed c =
    c.in_ok-encode.ensures.framed
    ∙ ap frame (c.deref.ensures.value ∙ (rw (to_z-of_z w32 _ c.ranges.version, c.in_ok-body.ensures.items) at
    c.in_ok-push_body.ensures.body))

pub returns-in_err-encode-clause-error : goal.returns-in_err-encode-clause-error
returns-in_err-encode-clause-error c =
    let body : c.deref.result.now
    ≡ change_body c.args.uri.now c.args.version (map content_change c.args.changes.items) =
    c.deref.ensures.value ∙ (rw (to_z-of_z w32 _ c.ranges.version, c.in_ok-body.ensures.items) at
    c.in_ok-push_body.ensures.body) in
    let p = err_from_is_err_and c.from_residual-in_err-encode.result c.from_residual-in_err-encode.ensures.1 in
    rw (p.1, p.2)
    (rw body at (encode_refused c.args.limits.now c.deref.result.now c.in_err-encode.field-0.0
    c.in_err-encode.ensures.error))
