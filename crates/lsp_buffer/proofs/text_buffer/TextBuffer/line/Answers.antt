use Rattle.lsp_buffer.proofs.Prelude.{◌≤◌, arith, chars, line_ends}
use Rattle.lsp_buffer.proofs.Queries.ContentsLemmas.{content_is}
use Rattle.lsp_buffer.proofs.text_buffer.TextBuffer.line.Goals as goal

pub returns-clause-content : goal.returns-clause-content
returns-clause-content c =
    let there : c.args.line ≤ line_ends (chars c.args.self.now) =
    omega (arith, c.line_count.ensures.count, c.if-line-line_count.false) in
    content_is c.args.self.now c.args.line _ c.line_end.ensures.utf8 there c.line_start.ensures c.line_end.ensures.value
