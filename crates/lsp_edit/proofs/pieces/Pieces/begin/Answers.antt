use Rattle.lsp_edit.proofs.Prelude.{refl}
use Rattle.lsp_edit.proofs.Composing.EditedLemmas.{begun, whole_is}
use Rattle.lsp_edit.proofs.pieces.Pieces.begin.Goals as goal

pub invariant_of-result : goal.invariant_of-result
invariant_of-result c = (
  rw (c.new-spans.ensures, c.in_ok-whole.ensures.parts, c.len-len.ensures.len, ← c.get-text.ensures)
      (begun c.get-text.result.now _ c.len-len.ensures.utf8 c.len-len.ensures.size
      (whole_is c.get-text.result.now c.len-len.ensures.utf8)),
  tt,
)

pub returns : goal.returns
returns c =
    rw (c.new-spans.ensures, c.in_ok-whole.ensures.parts, ← c.get-text.ensures)
    (rw (whole_is c.get-text.result.now c.len-len.ensures.utf8).items refl)
