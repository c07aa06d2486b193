use Rattle.lsp_edit.proofs.Batches.LawLemmas.{canonical_law}
use Rattle.lsp_edit.proofs.Batches.ComposeLemmas.{then_means, then_associative}
use Rattle.lsp_edit.proofs.laws.batch_laws.Goals as goal

pub returns-clause-canonical : goal.returns-clause-canonical
returns-clause-canonical c = canonical_law

pub returns-clause-then : goal.returns-clause-then
returns-clause-then c = then_means

pub returns-clause-associative : goal.returns-clause-associative
returns-clause-associative c = then_associative
