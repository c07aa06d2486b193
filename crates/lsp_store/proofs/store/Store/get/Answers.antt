use Rattle.lsp_store.proofs.Tables.StoreLemmas.{get_none}
use Rattle.lsp_store.proofs.Tables.TableLemmas.{entry_found}
use Rattle.lsp_store.proofs.store.Store.get.Goals as goal

pub returns-in_err-uri : goal.returns-in_err-uri
returns-in_err-uri c =
    rw (c.from_residual.ensures, ← c.self.view_is) (get_none c.self.inside.limits c.self.inside.documents.entries
    c.args.uri.now c.in_err-uri.ensures.value)

pub returns : goal.returns
returns c =
    rw (c.new.ensures, c.deref.ensures, ← c.self.view_is) (entry_found c.args.uri.now c.self.inside.documents.entries
    c.in_ok-uri.uri.now c.in_ok-uri.stored.now c.in_ok-uri.ensures.key c.in_ok-uri.ensures.value)
