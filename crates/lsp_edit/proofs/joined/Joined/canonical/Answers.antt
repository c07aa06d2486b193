use Rattle.lsp_edit.proofs.Prelude.{refl, rest_is, layer_parts, ap, ◌∙◌, JoinedData, parts_of}
use Rattle.lsp_edit.proofs.Deltas.LayerLemmas.{folded_both, folded_next, folded_start}
use Rattle.lsp_edit.proofs.joined.Joined.canonical.Goals as goal

pub loop-layer-init : goal.loop-layer-init
loop-layer-init c =
    rw c.deref-layer-items.ensures.value
    (folded_start c.text-text.result.now c.self.inside.before c.self.inside.layers.items _ c.args.self.now
    c.in_ok-spans.ensures.utf8 c.text-text.ensures c.self.view_is c.self.invariant c.in_ok-spans.ensures.parts)

pub spans_through-requires : goal.spans_through-requires
spans_through-requires c =
    let both = folded_both c.args.self.now.before (parts_of c.loop-layer.spans.items) _ _ c.args.self.now.items
    (rw (rest_is layer_parts c.deref-layer-items.result.now c.loop-layer.layer-index c.layer-item.result
    _ c.loop-layer-test.true refl) at c.loop-layer.invariant) in
    rw (c.deref.ensures.value, c.deref-in-loop-layer.ensures.value, c.in_ok-next.ensures, c.layer-item.is)
    (record { through = both.through; order = both.order })

pub loop-layer-preserved : goal.loop-layer-preserved
loop-layer-preserved c =
    folded_next c.args.self.now.before (parts_of c.loop-layer.spans.items) _ _ c.args.self.now.items
    (rw (rest_is layer_parts c.deref-layer-items.result.now c.loop-layer.layer-index c.layer-item.result
    _ c.loop-layer-test.true refl) at c.loop-layer.invariant)
    _
    (rw (c.deref.ensures.value, c.deref-in-loop-layer.ensures.value, c.in_ok-next.ensures, c.layer-item.is) at
    c.in_ok-spans-2.ensures)

pub canonical_of-requires-clause-keeps : goal.canonical_of-requires-clause-keeps
canonical_of-requires-clause-keeps c =
    rw (c.text-text.ensures ∙ ap (λ (j : JoinedData). j.before) c.self.view_is, c.deref-2.ensures.value)
    c.loop-layer.invariant.kept.keeps
