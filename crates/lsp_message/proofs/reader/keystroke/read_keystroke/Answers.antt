use Rattle.lsp_message.proofs.Prelude.{Some, sym, ap, ◌∙◌, did_change}
use Rattle.lsp_message.proofs.reader.keystroke.read_keystroke.Goals as goal

pub returns : goal.returns
returns c =
    let read = c.in-Some.ensures in
    (read.0, read.1, read.2 ∙ ap (λ p. did_change (Some p)) (sym c.in_ok-params.ensures), read.3)
