use Rattle.lsp_server.proofs.Prelude.{rules, open_view, opens}
use Rattle.lsp_server.proofs.Commands.{obeyed_step}
use Rattle.lsp_server.specs.contracts.server.Server.{the_view}
use Rattle.lsp_server.proofs.server.Server.open.Goals as goal

pub returns : goal.returns
returns c =
    rw (← c.self.view_is)
    (obeyed_step (the_view c.self.inside) _ (opens (open_view c.args.params)) c.open.new.self c.open.result
    c.answer_of.result
    c.open.ensures.taken c.open.ensures.unchanged c.open.ensures.error c.answer_of.ensures.changed
    c.answer_of.ensures.refused (search rules))
