use Rattle.lsp_message.proofs.Prelude.{◌≡◌, refl, arith, common_steps, false≢true, err_from_is_err_and, message_of, reading, view}
use Rattle.lsp_message.proofs.Readings.{reading_of_value, reading_of_none, marked_no_json, fault_by_error}
use Rattle.lsp_message.proofs.message.read.Goals as goal

pub returns-then-begins_with_mark-clause-error : goal.returns-then-begins_with_mark-clause-error
returns-then-begins_with_mark-clause-error c = marked_no_json c.args.body.now (c.if-begins_with_mark.ensures.0 refl)

pub returns-in_default-clause-error : goal.returns-in_default-clause-error
returns-in_default-clause-error c = reading_of_none c.args.body.now (λ utf8. absurd (c.in_default.ensures.cases.0 utf8))

pub returns-in_err-value-clause-error : goal.returns-in_err-value-clause-error
returns-in_err-value-clause-error c =
    let same = c.in-Ok.ensures.cases in
    let refused = rw same.0 at c.in_err-value.ensures.err in
    let memory = rw same.0 at c.in_err-value.ensures.memory in
    let p = err_from_is_err_and c.from_residual.result c.from_residual.ensures.1 in
    rw p.1 (fault_by_error c.args.body.now c.in_err-value.field-0.0 _ same.1 p.2 refused memory
    (λ e. false≢true (c.if-begins_with_mark.ensures.1 e)))

pub returns-clause-ok : goal.returns-clause-ok
returns-clause-ok c =
    let same = c.in-Ok.ensures.cases in
    let is : reading c.args.body.now ≡ message_of (view c.in_ok-value.value) =
    reading_of_value c.args.body.now _ same.1 (rw same.0 at c.in_ok-value.ensures.ok) in
    grind (arith, common_steps, is, c.message_of.ensures)

pub returns-clause-error : goal.returns-clause-error
returns-clause-error c =
    let same = c.in-Ok.ensures.cases in
    let is : reading c.args.body.now ≡ message_of (view c.in_ok-value.value) =
    reading_of_value c.args.body.now _ same.1 (rw same.0 at c.in_ok-value.ensures.ok) in
    grind (arith, common_steps, is, c.message_of.ensures)
