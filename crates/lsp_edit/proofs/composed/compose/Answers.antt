use Rattle.lsp_edit.proofs.Prelude.{arith, next_is, units_in}
use Rattle.lsp_edit.proofs.Composing.RoomLemmas.{applying_begins, applying_on}
use Rattle.lsp_edit.proofs.composed.compose.Goals as goal

pub loop-change-init : goal.loop-change-init
loop-change-init c =
    applying_begins (units_in c.args.encoding) c.args.before.now c.args.changes.now c.in_ok-pieces.pieces.edited
    c.utf8.before c.in_ok-pieces.ensures c.requires.size c.requires.fits

pub loop-change-preserved : goal.loop-change-preserved
loop-change-preserved c =
    applying_on _ _ _ _ c.change-item.result _ _ _
    (next_is c.args.changes.now c.loop-change.change-index c.change-item.result c.loop-change-test.true
    c.change-item.is)
    c.loop-change.invariant _ (omega arith) c.in_ok-apply.ensures.applied
