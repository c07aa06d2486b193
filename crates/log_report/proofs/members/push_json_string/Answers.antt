use Rattle.log_report.proofs.Prelude.{◌≡◌, ◌++◌, ap, ap₂, ◌∙◌, refl, print, string, print-outline}
use Rattle.lsp_message.specs.inside.Tokens.{tokens_of}
use Rattle.log_report.specs.Trace.{json_string}
use Rattle.log_report.proofs.members.push_json_string.Goals as goal

pub returns : goal.returns
unfolding json_string
returns c =
    let value = string c.args.text.now in
    let buffer = c.args.buffer.now.items in
    let before : c.string.new.self.before ≡ buffer =
    rw (c.string.ensures.room.0, c.new-writer.ensures.before, c.replace.ensures.value) refl in
    let tokens : c.string.new.self.tokens ≡ tokens_of value =
    c.in_ok-string.ensures.ok ∙ ap (λ ts. ts ++ tokens_of value) c.new-writer.ensures.tokens in
    c.into_inner.ensures.items ∙ ap₂ (λ bytes ts. bytes ++ print ts) before tokens ∙ ap (λ text. buffer ++ text)
    (print-outline value)
