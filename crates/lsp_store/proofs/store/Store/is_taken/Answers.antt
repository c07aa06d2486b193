use Rattle.lsp_store.proofs.Prelude.{◌∙◌, sym}
use Rattle.lsp_store.proofs.Tables.StoreLemmas.{taken_strict}
use Rattle.lsp_store.proofs.store.Store.is_taken.Goals as goal

pub returns-then-not-is_lenient : goal.returns-then-not-is_lenient
returns-then-not-is_lenient c =
    rw (← c.self.view_is) (c.contains_key.ensures
    ∙ taken_strict c.self.inside.limits c.self.inside.documents.entries c.args.uri.now
    (sym c.is_lenient.ensures ∙ c.if-not-is_lenient.true))
