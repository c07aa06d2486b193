use Rattle.lsp_server.proofs.Prelude.{◌∙◌}
use Rattle.lsp_server.proofs.RefusalLemmas.{refused_stays}
use Rattle.lsp_server.proofs.server.Server.handle.Goals as goal

pub returns-clause-refused : goal.returns-clause-refused
returns-clause-refused c = λ refusing.
    refused_stays c.read.new.self c.step.new.self _ c.in_ok-step.field-0 c.in_ok-step.ensures refusing
    ∙ c.in_ok-incoming.ensures.unchanged
