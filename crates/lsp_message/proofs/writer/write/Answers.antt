use Rattle.lsp_message.proofs.Prelude.{◌++◌, sym, ap, ◌∙◌, compact_text, outgoing_view, value_of}
use Rattle.lsp_message.proofs.BodyLemmas.{body_is}
use Rattle.lsp_message.proofs.ReadBack.{body_of-unique}
use Rattle.lsp_message.proofs.writer.write.Goals as goal

pub returns-clause-body : goal.returns-clause-body
returns-clause-body c =
    let message = outgoing_view c.args.message.now in
    c.in_ok-push.ensures.ok ∙ ap (λ bytes. bytes ++ compact_text (value_of message)) c.in_ok-body.ensures.items
    ∙ sym (body_is message)

pub returns-clause-unique : goal.returns-clause-unique
returns-clause-unique c = body_of-unique

pub returns-in_err-body-clause-unique : goal.returns-in_err-body-clause-unique
returns-in_err-body-clause-unique c = body_of-unique

pub returns-in_err-push-clause-unique : goal.returns-in_err-push-clause-unique
returns-in_err-push-clause-unique c = body_of-unique
