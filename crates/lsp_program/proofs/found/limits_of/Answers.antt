use Rattle.lsp_program.proofs.NumberLemmas.{no_some}
use Rattle.lsp_program.proofs.found.limits_of.Goals as goal

pub returns-in_err-max_body-clause-none : goal.returns-in_err-max_body-clause-none
returns-in_err-max_body-clause-none c = λ limits are.
    no_some c.number_of.result _ c.in_err-max_body.was (c.number_of.ensures.none limits.max_body are.max_body)

pub returns-in_err-max_text-clause-none : goal.returns-in_err-max_text-clause-none
returns-in_err-max_text-clause-none c = λ limits are.
    no_some c.number_of-2.result _ c.in_err-max_text.was (c.number_of-2.ensures.none limits.max_text are.max_text)

pub returns-in_err-max_docs-clause-none : goal.returns-in_err-max_docs-clause-none
returns-in_err-max_docs-clause-none c = λ limits are.
    no_some c.number_of-3.result _ c.in_err-max_docs.was (c.number_of-3.ensures.none limits.max_docs are.max_docs)

pub returns-in_err-max_changes-clause-none : goal.returns-in_err-max_changes-clause-none
returns-in_err-max_changes-clause-none c = λ limits are.
    no_some c.number_of-4.result _ c.in_err-max_changes.was (c.number_of-4.ensures.none limits.max_changes
    are.max_changes)
