use Rattle.lsp_simulate.proofs.Prelude.{append_assoc, arith}
use Rattle.std.proofs.lemmas.Grind.{common_steps}
use Rattle.lsp_simulate.proofs.session.push_documents.Goals as goal

pub loop-document-preserved : goal.loop-document-preserved
loop-document-preserved c = grind (arith, common_steps, append_assoc)
