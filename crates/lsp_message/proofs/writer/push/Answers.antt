use Rattle.lsp_message.proofs.Prelude.{◌≡◌, ◌++◌, ap, ap₂, ◌∙◌, on_ok_weaker, print, print-outline, tokens_of}
use Rattle.lsp_message.proofs.writer.push.Goals as goal

pub returns-else-is_err-clause-ok : goal.returns-else-is_err-clause-ok
returns-else-is_err-clause-ok g c =
    let value = g.V.WriteValue.value c.args.value.now in
    on_ok_weaker c.write-written.result
    (λ appended.
    let before : c.write-written.new.writer.before ≡ c.args.bytes.now.items =
    appended.before ∙ c.new-writer.ensures.before ∙ ap (λ v. v.items) c.replace.ensures.value in
    let tokens : c.write-written.new.writer.tokens ≡ tokens_of value =
    appended.tokens ∙ ap (λ ts. ts ++ tokens_of value) c.new-writer.ensures.tokens in
    c.into_inner.ensures.items ∙ ap₂ (λ bytes ts. bytes ++ print ts) before tokens
    ∙ ap (λ text. c.args.bytes.now.items ++ text) (print-outline value))
    c.write-written.ensures.tokens
