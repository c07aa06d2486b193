use Rattle.lsp_store.proofs.Prelude.{◌∙◌, sym, arith}
use Rattle.lsp_store.proofs.Tables.StoreLemmas.{others_new, others_open}
use Rattle.lsp_store.proofs.store.Store.others.Goals as goal

pub returns-then-contains_key : goal.returns-then-contains_key
returns-then-contains_key c =
    rw (← c.self.view_is) (omega (
      arith,
      others_open c.self.inside.limits c.self.inside.documents.entries c.args.uri.now
          (sym c.contains_key.ensures ∙ c.if-contains_key.true),
      c.len-count.ensures,
    ))

pub returns-else-contains_key : goal.returns-else-contains_key
returns-else-contains_key c =
    rw (← c.self.view_is) (omega (
      arith,
      others_new c.self.inside.limits c.self.inside.documents.entries c.args.uri.now
          (sym c.contains_key.ensures ∙ c.if-contains_key.false),
      c.len-count.ensures,
    ))
