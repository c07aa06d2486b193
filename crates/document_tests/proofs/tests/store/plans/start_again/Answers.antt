use Rattle.std.proofs.Common.{subst}
use Rattle.lsp_store.specs.Squash.{HasReached}
use Rattle.document_tests.proofs.tests.store.plans.start_again.Goals as goal

pub returns-in-Ok : goal.returns-in-Ok
returns-in-Ok c = λ on. subst (HasReached c.in-Ok.batches) (c.planned_document-document.ensures on)
    c.in-Ok.ensures.reached

pub returns : goal.returns
returns c = λ on. subst (HasReached c.in_ok-batches.batches) (c.planned_document-document.ensures on)
    c.in_ok-batches.ensures.reached
