use Rattle.lsp_store.proofs.Prelude.{◌∙◌, refl, sym, w32, arith, to_z-of_z, entry_under}
use Rattle.lsp_store.proofs.Tables.RefusalLemmas.{many_refused, long_refused, fit_accepted}
use Rattle.lsp_store.proofs.store.stored.Stored.check_change.Goals.{then-changes-max_changes-via-then-changes-max_changes, then-changes-max_changes-via-else-changes-max_changes+then-not-fits}
use Rattle.lsp_store.proofs.store.stored.Stored.check_change.Goals as goal

pub returns-then-changes-max_changes-clause-error : goal.returns-then-changes-max_changes-clause-error
returns-then-changes-max_changes-clause-error c units uri =
    elim c.then-changes-max_changes.branch [
      | then-changes-max_changes-via-then-changes-max_changes w ↦ many_refused c.args.limits.now c.args.changes.now
          units (entry_under uri c.args.self.now) _ _ _ (to_z-of_z w32 _ c.ranges.version) refl
          (sym c.is_stale.ensures ∙ c.if-is_stale.false) (omega (
            arith,
            w.if-changes-max_changes.true,
            c.max_changes.ensures.value,
          ))
      | then-changes-max_changes-via-else-changes-max_changes+then-not-fits w ↦ long_refused c.args.limits.now
          c.args.changes.now units (entry_under uri c.args.self.now) _ _ _ (to_z-of_z w32 _ c.ranges.version)
          refl (sym c.is_stale.ensures ∙ c.if-is_stale.false) _ w.fits.ensures w.if-not-fits.true
    ]

pub returns-clause-may : goal.returns-clause-may
returns-clause-may c uri units =
    fit_accepted c.args.limits.now c.args.changes.now units (entry_under uri c.args.self.now) _ _ _
    (to_z-of_z w32 _ c.ranges.version) refl (sym c.is_stale.ensures ∙ c.if-is_stale.false)
    (omega (arith, c.if-changes-max_changes.false, c.max_changes.ensures.value)) (c.fits.ensures.0 c.if-not-fits.false)
