use Rattle.lsp_edit.proofs.Prelude.{IsMark}
use Rattle.lsp_edit.proofs.pieces.replace.back_to.Given as goal

abbrev pub invariant-loop-index : goal.invariant-loop-index
invariant-loop-index l = IsMark l.spans l.index l.passed

abbrev pub decreases-loop-index : goal.decreases-loop-index
decreases-loop-index l = l.index
