use Rattle.lsp_store.proofs.Prelude.{◌≡◌, Err, w32, to_z-of_z, err_from_is_err_and, NoMemory}
use Rattle.lsp_store.proofs.squash.Squash.add.Goals as goal

pub invariant_of-self : goal.invariant_of-self
invariant_of-self c =
    rw (c.in_err-change.ensures.unchanged, c.in_err-change.ensures.reached_unchanged) c.self.invariant

pub returns-in_err-change-clause-error : goal.returns-in_err-change-clause-error
returns-in_err-change-clause-error c =
    let p = err_from_is_err_and c.from_residual.result c.from_residual.ensures.1 in
    rw (p.1, p.2) (rw (to_z-of_z w32 _ c.ranges.version, c.self.view_is) at c.in_err-change.ensures.error)

pub returns-in_err-change-clause-one : goal.returns-in_err-change-clause-one
returns-in_err-change-clause-one c = λ e range text is.
    let p = err_from_is_err_and c.from_residual.result c.from_residual.ensures.1 in
    let converted = p.1 in
    let same = p.2 in
    let was = c.in_err-change.was in
    let no_memory : c.change.result ≡ Err NoMemory = cc in
    rw (to_z-of_z w32 _ c.ranges.version, c.self.view_is) at (c.change.ensures.one no_memory range text is)
