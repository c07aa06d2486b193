use Rattle.lsp_simulate.proofs.Prelude.{◌≡◌, ◌∙◌, sym, Some, None}
use Rattle.lsp_simulate.proofs.OptionLemmas.{server_given, server_within}
use Rattle.lsp_program.proofs.NumberLemmas.{no_some}
use Rattle.lsp_simulate.proofs.command_line.server_limits.Goals as goal

pub returns-in_err-max_body-clause-none : goal.returns-in_err-max_body-clause-none
returns-in_err-max_body-clause-none c = λ limits are.
    no_some c.either.result _ c.in_err-max_body.was (c.either.ensures.none limits.max_body are.max_body)

pub returns-in_err-max_text-clause-none : goal.returns-in_err-max_text-clause-none
returns-in_err-max_text-clause-none c = λ limits are.
    no_some c.either-2.result _ c.in_err-max_text.was (c.either-2.ensures.none limits.max_text are.max_text)

pub returns-in_err-max_docs-clause-none : goal.returns-in_err-max_docs-clause-none
returns-in_err-max_docs-clause-none c = λ limits are.
    no_some c.either-3.result _ c.in_err-max_docs.was (c.either-3.ensures.none limits.max_docs are.max_docs)

pub returns-in_err-max_changes-clause-none : goal.returns-in_err-max_changes-clause-none
returns-in_err-max_changes-clause-none c = λ limits are.
    no_some c.either-4.result _ c.in_err-max_changes.was (c.either-4.ensures.none limits.max_changes
    are.max_changes)

pub returns-in_default-clause-none : goal.returns-in_default-clause-none
returns-in_default-clause-none c = λ limits are.
    let within = server_within c.args.options.now _ _ _ _ c.in_ok-max_body.ensures.some
    c.in_ok-max_text.ensures.some c.in_ok-max_docs.ensures.some c.in_ok-max_changes.ensures.some limits are in
    let bad : None ≡ Some c.in_default.field-0.which = sym within ∙ c.in_default.ensures in
    cc

pub returns-clause-some : goal.returns-clause-some
returns-clause-some c =
    server_given c.args.options.now c.in_ok-max_body.max_body c.in_ok-max_text.max_text c.in_ok-max_docs.max_docs
    c.in_ok-max_changes.max_changes c.in_ok-max_body.ensures.some c.in_ok-max_text.ensures.some
    c.in_ok-max_docs.ensures.some c.in_ok-max_changes.ensures.some c.in-Ok.limits c.with_leniency.result
    c.in-Ok.ensures.0 c.in-Ok.ensures.1 c.with_leniency.ensures.limits c.with_leniency.ensures.lenient
