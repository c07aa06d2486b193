use Rattle.lsp_message.proofs.Prelude.{codes, refl, lex, content}
use Rattle.lsp_message.proofs.Lexemes.{opened, closed, listed, change_data, length_later, change_is, length_is}
use Rattle.lsp_message.proofs.reader.cursor.Cursor.changes.Goals as goal

pub returns : goal.returns
unfolding lex content
returns c =
    let range = c.in_ok-range.ensures in
    let length = c.in_ok-length.length in
    let text = c.in_ok-text.text.now in (
      change_data length range.0 text,
      listed c.in_ok-take.ensures (opened (codes "range") c.in_ok-take-2.ensures c.in_ok-take-3.ensures (λ rest. refl)
          range.1 (length_later c.range.new.self.rest.now c.range_length.new.self.rest.now text length
          c.in_ok-length.ensures c.in_ok-take-4.ensures c.in_ok-text.ensures (closed c.in_ok-take-5.ensures)))
          c.in_ok-take-6.ensures,
      change_is length range.0 c.in_ok-range.range text range.2,
      length_is length range.0 text,
    )
