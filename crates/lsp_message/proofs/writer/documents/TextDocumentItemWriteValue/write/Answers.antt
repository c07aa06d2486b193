use Rattle.lsp_message.proofs.Prelude.{sym, rules, w32, to_z-of_z}
use Rattle.lsp_message.proofs.writer.documents.TextDocumentItemWriteValue.write.Goals as goal

pub returns-clause-tokens : goal.returns-clause-tokens
returns-clause-tokens c = rw (sym (to_z-of_z w32 c.args.self.now.version (search rules))) c.write.ensures.tokens
