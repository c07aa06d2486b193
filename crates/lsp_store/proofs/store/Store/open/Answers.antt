use Rattle.lsp_store.proofs.Prelude.{inr, w32, string_bytes, to_z-of_z, err_from_is_err_and}
use Rattle.lsp_store.proofs.Tables.StoreLemmas.{opened, opened_few}
use Rattle.lsp_store.proofs.store.Store.open.Goals as goal

pub returns-in_err-check_open-clause-error : goal.returns-in_err-check_open-clause-error
returns-in_err-check_open-clause-error c =
    let p = err_from_is_err_and c.from_residual.result c.from_residual.ensures.1 in
    rw (p.1, p.2) (inr (rw (c.deref.ensures, c.deref-2.ensures) at
    (c.in_err-check_open.ensures.error (string_bytes c.args.language) c.args.version)))

pub invariant_of-self-2 : goal.invariant_of-self-2
invariant_of-self-2 c =
    opened_few c.self.inside.limits c.self.inside.documents.entries c.args.uri c.in_ok-stored.stored _
    (rw (to_z-of_z w32 _ c.ranges.version) at (c.in_ok-stored.ensures (string_bytes c.args.uri))) _
    c.in_ok-insert_last.ensures.inserted (rw (c.deref.ensures, ← c.self.view_is) at c.in_ok-check_open.ensures.room)

pub returns-clause-taken : goal.returns-clause-taken
returns-clause-taken c =
    rw (← c.self.view_is) (opened c.self.inside.limits c.self.inside.documents.entries c.args.uri
    c.in_ok-stored.stored _
    (rw (to_z-of_z w32 _ c.ranges.version) at (c.in_ok-stored.ensures (string_bytes c.args.uri))) _
    c.in_ok-insert_last.ensures.inserted
    (rw (c.deref.ensures, c.deref-2.ensures, ← c.self.view_is) at
    (c.in_ok-check_open.ensures.may (string_bytes c.args.language) c.args.version)))

pub returns-in_err-stored-clause-memory : goal.returns-in_err-stored-clause-memory
returns-in_err-stored-clause-memory c = λ e.
    rw (c.deref.ensures, c.deref-2.ensures) at
    (c.in_ok-check_open.ensures.may (string_bytes c.args.language) c.args.version)

pub returns-in_err-insert_last-clause-memory : goal.returns-in_err-insert_last-clause-memory
returns-in_err-insert_last-clause-memory c = λ e.
    rw (c.deref.ensures, c.deref-2.ensures) at
    (c.in_ok-check_open.ensures.may (string_bytes c.args.language) c.args.version)
