use Rattle.log_rewrite.proofs.Documents.DocumentsLawLemmas.{documents_law, documents_stop}
use Rattle.log_rewrite.proofs.laws.documents_laws.Goals as goal

pub returns : goal.returns
returns c = record { stops = documents_stop; documents = documents_law }
