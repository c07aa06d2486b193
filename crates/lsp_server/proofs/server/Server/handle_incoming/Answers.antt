use Rattle.lsp_server.proofs.RefusalLemmas.{refused_stays}
use Rattle.lsp_server.proofs.server.Server.handle_incoming.Goals as goal

pub returns-clause-refused : goal.returns-clause-refused
returns-clause-refused c = refused_stays c.args.self.now c.step.new.self _ c.in_ok-step.field-0 c.in_ok-step.ensures
