use Rattle.lsp_message.proofs.Prelude.{sym}
use Rattle.lsp_message.proofs.writer.lifecycle.write_initialize_result.Goals as goal

pub returns-clause-tokens : goal.returns-clause-tokens
returns-clause-tokens c = rw (sym c.name.ensures, sym c.number.ensures) c.write_response.ensures.tokens
