use Rattle.lsp_edit.proofs.Prelude.{arith, common_steps}
use Rattle.lsp_edit.proofs.Parts.MarkLemmas.{span_ordered}
use Rattle.lsp_edit.proofs.pieces.replace.back_to.Goals as goal

pub len-passed-requires : goal.len-passed-requires
len-passed-requires c =
    grind (arith, common_steps, span_ordered, c.loop-index.invariant.0, c.loop-index-test.true, c.requires.ordered)
