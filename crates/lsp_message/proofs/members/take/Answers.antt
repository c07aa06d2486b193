use Rattle.lsp_message.proofs.Prelude.{None, option_map, sym, ap, ◌∙◌, view, view-lookup}
use Rattle.std.proofs.lemmas.Map.Text.{btree_map_updates_text}
use Rattle.lsp_message.proofs.members.take.Goals as goal

pub returns-clause-value : goal.returns-clause-value
returns-clause-value c = ap (option_map view) c.remove.ensures.value ∙ view-lookup c.args.name.now
    c.args.members.now.entries

pub returns-clause-others : goal.returns-clause-others
returns-clause-others c = λ q apart.
    let same = btree_map_updates_text c.args.name.now c.args.members.now c.remove.new.self None c.remove.ensures.updates
    q in
    sym (view-lookup q c.remove.new.self.entries) ∙ ap (option_map view) (rw apart at same)
    ∙ view-lookup q c.args.members.now.entries
