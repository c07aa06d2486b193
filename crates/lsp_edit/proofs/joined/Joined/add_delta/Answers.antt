use Rattle.lsp_edit.proofs.Prelude.{◌∙◌}
use Rattle.lsp_edit.proofs.Deltas.LayerLemmas.{more_all, more_joined, more_reached}
use Rattle.lsp_edit.proofs.joined.Joined.add_delta.Goals as goal

pub invariant_of-self-2 : goal.invariant_of-self-2
invariant_of-self-2 c =
    more_all c.self.inside.before c.self.inside.layers.items c.self.invariant c.args.self.now
    (c.self.view_is ∙ c.join.ensures) c.args.reached.now c.requires.reached c.args.delta.now c.requires.on
    c.in_ok-layer.layer c.in_ok-layer.ensures c.push_reserved.new.self.items
    (rw c.reserve.ensures.items at c.push_reserved.ensures.items)

pub returns-clause-ok : goal.returns-clause-ok
returns-clause-ok c =
    more_joined c.self.inside.before c.self.inside.layers.items c.self.invariant c.args.self.now
    (c.self.view_is ∙ c.join.ensures) c.args.reached.now c.requires.reached c.args.delta.now c.requires.on
    c.in_ok-layer.layer c.in_ok-layer.ensures c.push_reserved.new.self.items
    (rw c.reserve.ensures.items at c.push_reserved.ensures.items)

pub returns-clause-reached : goal.returns-clause-reached
returns-clause-reached c =
    more_reached c.self.inside.before c.self.inside.layers.items c.self.invariant c.args.self.now
    (c.self.view_is ∙ c.join.ensures) c.args.reached.now c.requires.reached c.args.delta.now c.requires.on
    c.in_ok-layer.layer c.in_ok-layer.ensures c.push_reserved.new.self.items
    (rw c.reserve.ensures.items at c.push_reserved.ensures.items)
