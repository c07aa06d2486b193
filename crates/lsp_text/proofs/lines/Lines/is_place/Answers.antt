use Rattle.lsp_text.proofs.Positions.BoundaryLemmas.{tested_both, tested_none}
use Rattle.lsp_text.proofs.lines.Lines.is_place.Goals as goal

pub returns-then-is_char_boundary-clause-place : goal.returns-then-is_char_boundary-clause-place
returns-then-is_char_boundary-clause-place c =
    tested_both c.args.text.now c.as_bytes.result.now c.args.place c.is_inside_crlf.result c.utf8.text
    c.as_bytes.ensures.value (c.is_char_boundary.ensures.test.0 c.if-is_char_boundary.true) c.is_inside_crlf.ensures

pub returns-else-is_char_boundary-clause-place : goal.returns-else-is_char_boundary-clause-place
returns-else-is_char_boundary-clause-place c =
    tested_none c.args.text.now c.args.place c.is_char_boundary.result c.utf8.text c.if-is_char_boundary.false
    c.is_char_boundary.ensures.test
