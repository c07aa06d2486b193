use Rattle.lsp_edit.proofs.Prelude.{refl, units_in, chars}
use Rattle.lsp_edit.proofs.Batches.LawLemmas.{units_some}
use Rattle.lsp_edit.proofs.Batches.LocatedLemmas.{batch_by_indexes, items_keep, located_is, parts_are}
use Rattle.lsp_edit.proofs.indexed.IndexedText.batch_of_edits.Goals as goal

pub canonical_of-requires-clause-parts : goal.canonical_of-requires-clause-parts
canonical_of-requires-clause-parts c =
    rw c.deref.ensures.value (parts_are _ c.in-Ok.ensures.utf8 _ _ _ c.in-Ok.ensures.are)

pub canonical_of-requires-clause-keeps : goal.canonical_of-requires-clause-keeps
canonical_of-requires-clause-keeps c =
    rw c.deref.ensures.value (items_keep _ c.in-Ok.ensures.utf8 _ _ _ c.in-Ok.ensures.are)

pub returns-clause-batch : goal.returns-clause-batch
returns-clause-batch c =
    rw (← c.text-text.ensures)
    (batch_by_indexes _ c.in-Ok.ensures.utf8 _ _ _ c.in-Ok.ensures.are (units_some c.args.encoding) _
    (rw c.deref.ensures.value at c.in_ok-canonical_of.ensures))

pub returns-in-Err-clause-error : goal.returns-in-Err-clause-error
returns-in-Err-clause-error c =
    rw (← c.text-text.ensures)
    (c.decided_fault.ensures.error c.in-Err.ensures.error)

-- Spans are there only of edits whose ranges all lie in the text.
pub returns-in_err-canonical_of-clause-memory : goal.returns-in_err-canonical_of-clause-memory
returns-in_err-canonical_of-clause-memory c = λ _.
    rw (
      ← c.text-text.ensures,
      located_is (chars c.text-text.result.now) (units_in c.args.encoding) c.args.edits.now _ _ c.in-Ok.ensures.are.at
          c.in-Ok.ensures.are.order,
    ) refl
