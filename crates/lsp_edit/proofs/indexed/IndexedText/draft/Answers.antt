use Rattle.lsp_edit.proofs.Prelude.{arith, common_steps, drop_all, err_from_is_err_and, next_is, units_in}
use Rattle.lsp_edit.proofs.Batches.DraftLemmas.{draft_faulted, drafted_ends, drafting_begins, drafting_on}
use Rattle.lsp_edit.proofs.indexed.IndexedText.draft.Goals as goal

pub loop-number-init : goal.loop-number-init
loop-number-init c =
    let begins = drafting_begins (units_in c.args.encoding) c.args.self.now c.args.changes.now _
    c.in_ok-draft.ensures.utf8 c.in_ok-draft.ensures.begun c.requires.size c.requires.fits in
    grind (arith, common_steps, begins)

pub returns-in_err-next-clause-error : goal.returns-in_err-next-clause-error
returns-in_err-next-clause-error c =
    let p = err_from_is_err_and c.from_residual-in_err-next.result c.from_residual-in_err-next.ensures.1 in
    rw (p.1, p.2)
    (draft_faulted _ _ _ c.loop-number.number c.index-changes-number.result _ _ _ _
    (next_is c.args.changes.now c.loop-number.number c.index-changes-number.result c.loop-number-test.true
    c.index-changes-number.is) c.loop-number.invariant c.in_err-next.ensures.utf8 c.args.max_len _
    c.in_err-next.ensures.error)

pub loop-number-preserved : goal.loop-number-preserved
loop-number-preserved c =
    drafting_on _ _ _ c.loop-number.number c.index-changes-number.result _ _ _ _
    (next_is c.args.changes.now c.loop-number.number c.index-changes-number.result c.loop-number-test.true
    c.index-changes-number.is) c.loop-number.invariant c.in_ok-next.ensures.utf8 _ _ _ c.in_ok-next.ensures.ok
    c.in_ok-push_ends.ensures c.in_ok-next.ensures.longer

pub returns-clause-ends : goal.returns-clause-ends
returns-clause-ends c =
    drafted_ends _ _ _ _ _ _ _ (drop_all c.loop-number.number c.args.changes.now c.loop-number-test.false)
    c.loop-number.invariant
