use Rattle.lsp_store.proofs.Prelude.{map, w32, to_z-of_z, content_change}
use Rattle.lsp_store.proofs.Tables.PlanLemmas.{plan_is}
use Rattle.lsp_store.proofs.Tables.StoreLemmas.{change_absent, found_at}
use Rattle.lsp_store.proofs.store.Store.plan.Goals as goal

pub returns-in_default-clause-error : goal.returns-in_default-clause-error
returns-in_default-clause-error c =
    rw (← c.self.view_is) (change_absent c.self.inside.limits c.self.inside.documents.entries c.args.uri.now
    c.args.version c.args.encoding (map content_change c.args.changes.now) c.in_default.ensures.value)

pub returns-in-Ok-clause-planned : goal.returns-in-Ok-clause-planned
returns-in-Ok-clause-planned c =
    let version = to_z-of_z w32 c.args.version c.ranges.version in
    rw (← c.self.view_is) (plan_is c.self.inside.limits c.self.inside.documents.entries c.args.uri.now
    c.args.version _ version c.args.encoding (map content_change c.args.changes.now) c.in-Some.index
    c.in-Some.field-0-1.now c.in-Some.stored.now c.in-Ok.delta
    c.in-Some.ensures.index c.in-Some.ensures.key c.in-Some.ensures.value c.in-Some.ensures.entry
    (rw version at c.in-Ok.ensures.accepted) c.in-Ok.ensures.delta c.in-Ok.ensures.short)

pub returns-in-Ok-clause-on : goal.returns-in-Ok-clause-on
returns-in-Ok-clause-on c = (returns-in-Ok-clause-planned c).on

pub returns-in-Err-clause-error : goal.returns-in-Err-clause-error
returns-in-Err-clause-error c =
    rw (
      ← c.self.view_is,
      found_at c.self.inside.limits c.self.inside.documents.entries c.args.uri.now
          c.in-Some.stored.now c.in-Some.ensures.value,
    )
    (rw (to_z-of_z w32 _ c.ranges.version) at (c.in-Err.ensures.error c.args.uri.now))

pub returns-in-Err-clause-memory : goal.returns-in-Err-clause-memory
returns-in-Err-clause-memory c = λ e.
    rw (
      ← c.self.view_is,
      found_at c.self.inside.limits c.self.inside.documents.entries c.args.uri.now
          c.in-Some.stored.now c.in-Some.ensures.value,
    )
    (rw (to_z-of_z w32 _ c.ranges.version) at (c.in-Err.ensures.memory (cc) c.args.uri.now))

pub returns-in-Err-clause-one : goal.returns-in-Err-clause-one
returns-in-Err-clause-one c = λ e range text is.
    rw (
      ← c.self.view_is,
      found_at c.self.inside.limits c.self.inside.documents.entries c.args.uri.now
          c.in-Some.stored.now c.in-Some.ensures.value,
    )
    (rw (to_z-of_z w32 _ c.ranges.version) at (c.in-Err.ensures.one (cc) c.args.uri.now range text is))
