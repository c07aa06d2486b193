use Rattle.lsp_edit.proofs.Prelude.{◌≡◌, inl, inr, ⊎_elim, chars, units_in, DoOverlap}
use Rattle.std.proofs.lemmas.Result.{IfErr-weaker}
use Rattle.lsp_edit.specs.declared.text_edits.TextEditFault.TheVariants.{NoMemory}
use Rattle.lsp_edit.proofs.Batches.LocatedLemmas.{overlap_by_indexes}
use Rattle.lsp_edit.proofs.text_edits.spans_of_edits.Goals as goal

pub returns-clause-error : goal.returns-clause-error
returns-clause-error c =
    IfErr-weaker c.spans_left.result _ _ (λ fault why.
    ⊎_elim
    (λ (none : fault ≡ NoMemory). inl none)
    (λ (over : DoOverlap c.deref.result.now fault).
    inr (inr (overlap_by_indexes (chars c.args.text.now) (units_in c.args.encoding) c.args.edits.now _ _
    c.in_ok-placed.ensures.ok c.in_ok-put_in_order.ensures fault (rw c.deref.ensures.value at over))))
    why) c.spans_left.ensures.error
