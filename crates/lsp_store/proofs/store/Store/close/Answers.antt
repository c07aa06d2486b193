use Rattle.lsp_store.proofs.Prelude.{ap, arith, length, refl, is_key}
use Rattle.lsp_store.proofs.Tables.StoreLemmas.{close_absent, closed}
use Rattle.lsp_store.proofs.Tables.TableLemmas.{remove_entry-few}
use Rattle.lsp_store.proofs.store.Store.close.Goals as goal

pub returns-in_default-clause-error : goal.returns-in_default-clause-error
returns-in_default-clause-error c = (
  refl,
  rw (← c.self.view_is) (close_absent c.self.inside.limits c.self.inside.documents.entries c.args.uri.now
      c.in_default.ensures.value),
)

pub returns-clause-taken : goal.returns-clause-taken
returns-clause-taken c = rw (← c.self.view_is) (closed c.self.inside.limits c.self.inside.documents.entries
    c.args.uri.now _ c.in-Some.ensures.value _ c.in-Some.ensures.entries)

pub invariant_of-self-2 : goal.invariant_of-self-2
invariant_of-self-2 c = omega (
  arith,
  ap length c.in-Some.ensures.entries,
  remove_entry-few (is_key c.args.uri.now) c.self.inside.documents.entries,
  c.self.invariant,
)
