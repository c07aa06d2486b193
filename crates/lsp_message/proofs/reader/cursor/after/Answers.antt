use Rattle.lsp_message.proofs.Prelude.{◌++◌, sym, ap, ◌∙◌, bytes_eq-Decides}
use Rattle.lsp_message.proofs.Lexemes.{split_is}
use Rattle.lsp_message.proofs.reader.cursor.after.Goals as goal

pub returns-then-eq : goal.returns-then-eq
returns-then-eq c =
    let rest = c.in_ok-beginning.rest.now in
    split_is c.args.text.now c.in_ok-beginning.beginning.now rest _ c.in_ok-beginning.ensures.front
    c.in_ok-beginning.ensures.back
    ∙ ap (λ b. b ++ rest) ((bytes_eq-Decides _ _).0 (sym c.eq.ensures ∙ c.if-eq.true))
