use Rattle.lsp_store.proofs.Prelude.{w32, to_z-of_z}
use Rattle.lsp_store.proofs.store.Store.change.Goals as goal

pub returns-in-Err-clause-one : goal.returns-in-Err-clause-one
returns-in-Err-clause-one c = λ e.
    rw (to_z-of_z w32 _ c.ranges.version) at (c.in-Err.ensures.one (cc))
