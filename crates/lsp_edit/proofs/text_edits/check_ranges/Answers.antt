use Rattle.lsp_edit.proofs.Prelude.{drop_all, err_from_is_err_and, next_is}
use Rattle.lsp_edit.proofs.Batches.TextEditLemmas.{locating_on, locating_stops, located_ok}
use Rattle.lsp_edit.proofs.text_edits.check_ranges.Goals as goal

pub returns-in_err-ends-clause-error : goal.returns-in_err-ends-clause-error
returns-in_err-ends-clause-error c =
    let p = err_from_is_err_and c.from_residual.result c.from_residual.ensures.1 in
    rw (p.1, p.2)
    (locating_stops _ _ _ c.loop-number.number c.index-edits-number.result _ _
    (next_is c.args.edits.now c.loop-number.number c.index-edits-number.result c.loop-number-test.true
    c.index-edits-number.is) c.loop-number.invariant _ c.in_err-ends.ensures)

pub loop-number-preserved : goal.loop-number-preserved
loop-number-preserved c =
    locating_on _ _ _ c.loop-number.number c.index-edits-number.result _ _
    (next_is c.args.edits.now c.loop-number.number c.index-edits-number.result c.loop-number-test.true
    c.index-edits-number.is) c.loop-number.invariant _ c.in_ok-ends.ensures

pub returns-clause-ok : goal.returns-clause-ok
returns-clause-ok c =
    located_ok _ _ _ c.loop-number.number _ c.loop-number.invariant
    (drop_all c.loop-number.number c.args.edits.now c.loop-number-test.false)
