use Rattle.lsp_store.proofs.Prelude.{◌≡◌, ◌∙◌, Err, ap, inr, w32, to_z-of_z, err_from_is_err_and, units_in, BatchFault, NoMemory, store_fault_of}
use Rattle.lsp_store.proofs.Tables.RefusalLemmas.{meaning_accepted, meaning_within, memory_told, text_told}
use Rattle.lsp_edit.specs.declared.indexed.fault.BatchFault.TheVariants as faults
use Rattle.lsp_store.proofs.store.stored.Stored.plan.Goals as goal

pub returns-in_err-check_change-clause-error : goal.returns-in_err-check_change-clause-error
returns-in_err-check_change-clause-error c =
    let p = err_from_is_err_and c.from_residual.result c.from_residual.ensures.1 in
    rw (p.1, p.2) (λ uri. inr (rw (to_z-of_z w32 _ c.ranges.version) at (c.in_err-check_change.ensures.error
    (units_in c.args.encoding) uri)))

pub returns-in-Ok-clause-accepted : goal.returns-in-Ok-clause-accepted
returns-in-Ok-clause-accepted c = λ uri.
    (rw (to_z-of_z w32 _ c.ranges.version) at (c.in_ok-check_change.ensures.may uri (units_in c.args.encoding)))
    ∙ (meaning_accepted c.args.limits.now c.args.self.now.text _ _
    (rw c.max_text-max_len.ensures.value at c.in-Ok.ensures.ok.is)).0

pub returns-in-Err-clause-error : goal.returns-in-Err-clause-error
returns-in-Err-clause-error c = λ uri.
    let may = rw (to_z-of_z w32 _ c.ranges.version) at (c.in_ok-check_change.ensures.may uri (units_in
    c.args.encoding)) in
    rw (c.from.ensures, may) (text_told c.args.limits.now c.args.self.now.text _ _
    (rw c.max_text-max_len.ensures.value at c.in-Err.ensures.error))

pub returns-in-Err-clause-memory : goal.returns-in-Err-clause-memory
returns-in-Err-clause-memory c = λ e uri.
    rw (to_z-of_z w32 _ c.ranges.version) at (c.in_ok-check_change.ensures.may uri)

pub returns-in-Err-clause-one : goal.returns-in-Err-clause-one
returns-in-Err-clause-one c = λ e uri range text is.
    let told : store_fault_of c.in-Err.fault ≡ NoMemory = cc in
    let none : c.in-Err.fault ≡ faults.NoMemory = memory_told c.in-Err.fault told in
    (rw (to_z-of_z w32 _ c.ranges.version) at (c.in_ok-check_change.ensures.may uri (units_in c.args.encoding)))
    ∙ meaning_within c.args.limits.now c.args.self.now.text _
    (rw c.max_text-max_len.ensures.value at
    (c.in-Err.ensures.memory (ap (λ (fault : BatchFault). Err fault) none) range text is))
