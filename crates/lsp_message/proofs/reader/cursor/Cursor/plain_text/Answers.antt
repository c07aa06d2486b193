use Rattle.lsp_message.proofs.Prelude.{◌≡◌, take, sym, ap, ◌∙◌, escape}
use Rattle.lsp_message.proofs.Lexemes.{split_is, string_read, plain_text_read}
use Rattle.lsp_message.proofs.reader.cursor.Cursor.plain_text.Goals as goal

pub returns : goal.returns
returns c =
    let start = c.after_blanks-start.result.now in
    let content = c.in_ok-content.content.now in
    let text = c.in_ok-text.text.now in
    let end = c.in_ok-text.end.now in
    let len = c.plain_len.result in
    let is : text ≡ take len c.as_bytes.result.now = c.in_ok-text.ensures.front
    ∙ ap (take len) (sym c.as_bytes.ensures.value) in
    string_read _ _ text (plain_text_read c.args.self.now.rest.now start content end c.in_ok-rest.rest.now text
    c.after_blanks-start.ensures c.in_ok-content.ensures
    (split_is content text end len c.in_ok-text.ensures.front c.in_ok-text.ensures.back) c.in_ok-rest.ensures
    (ap escape is ∙ c.plain_len.ensures ∙ sym is))
