use Rattle.lsp_edit.proofs.Prelude.{refl, inr, drop_more, slice_index_or}
use Rattle.lsp_edit.proofs.Batches.TextEditLemmas.{no_edit, overlapping, spanning_on}
use Rattle.lsp_edit.proofs.text_edits.spans_left.Goals as goal

pub returns-then-edit-low-clause-error : goal.returns-then-edit-low-clause-error
returns-then-edit-low-clause-error c =
    inr
    (overlapping c.args.len c.args.ordered.now _ c.loop-edit.edit-index _ c.loop-edit.low c.loop-edit.last
    (slice_index_or c.args.ordered.now c.loop-edit.edit-index no_edit) _
    (drop_more c.args.ordered.now c.loop-edit.edit-index no_edit c.loop-edit-test.true) c.loop-edit-test.true refl
    c.loop-edit.invariant _ c.if-edit-low.true refl)

pub loop-edit-preserved : goal.loop-edit-preserved
loop-edit-preserved c =
    spanning_on c.args.len c.args.ordered.now _ c.loop-edit.edit-index _ c.loop-edit.low c.loop-edit.last
    (slice_index_or c.args.ordered.now c.loop-edit.edit-index no_edit) _
    (drop_more c.args.ordered.now c.loop-edit.edit-index no_edit c.loop-edit-test.true) c.loop-edit-test.true refl
    c.loop-edit.invariant _ _ c.if-edit-low.false c.in_ok-push_old.ensures c.in_ok-push_new.ensures
