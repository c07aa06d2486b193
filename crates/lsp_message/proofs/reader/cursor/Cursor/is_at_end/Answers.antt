use Rattle.lsp_message.proofs.Prelude.{sym, ◌∙◌}
use Rattle.lsp_message.proofs.Lexemes.{no_bytes}
use Rattle.lsp_message.proofs.reader.cursor.Cursor.is_at_end.Goals as goal

pub returns : goal.returns
returns c = λ empty.
    c.after_blanks.ensures ∙ no_bytes c.after_blanks.result.now (sym c.is_empty.ensures ∙ empty)
