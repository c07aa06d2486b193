use Rattle.lsp_edit.proofs.Prelude.{List, length, map, subst, ◌∙◌, inr, drop_all, err_from_is_err_and, next_is, chars, units_in, TextEdit, ArePlaced, located_of}
use Rattle.lsp_edit.proofs.Batches.TextEditLemmas.{locating_stops, placed_more}
use Rattle.lsp_edit.proofs.text_edits.place_all.Goals as goal

pub returns-in_err-start-clause-error : goal.returns-in_err-start-clause-error
returns-in_err-start-clause-error c =
    let p = err_from_is_err_and c.from_residual.result c.from_residual.ensures.1 in
    let number = c.len-number.ensures ∙ c.loop-edit.placed.ok.0 in
    rw (p.1, p.2)
    (inr
    (locating_stops (units_in c.args.encoding) (chars c.args.text.now) c.args.edits.now
    (length c.loop-edit.placed.items)
    c.edit-item.result _ _ (next_is c.args.edits.now c.loop-edit.edit-index c.edit-item.result c.loop-edit-test.true
    c.edit-item.is) (record {
      front = map (located_of (chars c.args.text.now)) c.loop-edit.placed.items;
      at = c.loop-edit.invariant.at;
    }) _ (rw number at c.in_err-start.ensures)))

pub loop-edit-preserved : goal.loop-edit-preserved
loop-edit-preserved c =
    placed_more (units_in c.args.encoding) (chars c.args.text.now) c.args.edits.now c.edit-item.result _ _
    c.loop-edit.placed.items _ _ (next_is c.args.edits.now c.loop-edit.edit-index c.edit-item.result
    c.loop-edit-test.true c.edit-item.is) c.loop-edit.invariant c.in_ok-start.ensures
    (c.len-number.ensures ∙ c.loop-edit.placed.ok.0) c.deref.ensures c.in_ok-push_placed.ensures

pub returns-clause-ok : goal.returns-clause-ok
returns-clause-ok c =
    subst (λ (rest : List TextEdit). ArePlaced (units_in c.args.encoding) (chars c.args.text.now) c.args.edits.now rest
    c.loop-edit.placed.items) (drop_all c.loop-edit.edit-index c.args.edits.now c.loop-edit-test.false)
    c.loop-edit.invariant
