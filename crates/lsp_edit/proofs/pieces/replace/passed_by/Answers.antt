use Rattle.lsp_edit.proofs.Parts.MarkLemmas.{mark_passing}
use Rattle.lsp_edit.proofs.pieces.replace.passed_by.Goals as goal

pub loop-next-init : goal.loop-next-init
loop-next-init c = (
  c.requires.marked,
  mark_passing c.args.spans.now c.args.index c.args.passed c.args.low c.requires.marked c.requires.order
      c.requires.ordered,
)
