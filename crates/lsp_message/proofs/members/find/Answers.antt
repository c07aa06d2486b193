use Rattle.lsp_message.proofs.Prelude.{option_map, ap, ◌∙◌, view, view_of_ref, view-lookup}
use Rattle.lsp_message.proofs.members.find.Goals as goal

pub returns : goal.returns
returns c = view_of_ref c.get.result ∙ ap (option_map view) c.get.ensures.value ∙ view-lookup c.args.name.now
    c.args.members.now.entries
