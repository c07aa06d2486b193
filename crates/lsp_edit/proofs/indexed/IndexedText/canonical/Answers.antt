use Rattle.lsp_edit.proofs.Prelude.{map, content_change}
use Rattle.lsp_edit.proofs.Deltas.DeltaLemmas.{canonical_is}
use Rattle.lsp_edit.proofs.indexed.IndexedText.canonical.Goals as goal

pub returns-in_ok-canonical-in-Ok-clause-batch : goal.returns-in_ok-canonical-in-Ok-clause-batch
returns-in_ok-canonical-in-Ok-clause-batch c =
    canonical_is c.args.encoding c.args.max_len c.args.self.now (map content_change c.args.changes.now) _ c.in-Ok.delta
    c.in-Ok.ensures.ok c.in_ok-canonical-in-Ok.ensures
