use Rattle.lsp_message.proofs.Prelude.{sym, rules, w32, to_z-of_z}
use Rattle.lsp_message.proofs.BodyLemmas.{document_is}
use Rattle.lsp_message.proofs.writer.push_document.Goals as goal

pub returns-clause-ok : goal.returns-clause-ok
returns-clause-ok c = rw (document_is _, sym (to_z-of_z w32 c.args.version (search rules))) c.push.ensures.ok
