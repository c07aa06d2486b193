use Rattle.lsp_edit.proofs.Prelude.{drop, map, layer_parts, parts_of}
use Rattle.lsp_edit.proofs.Deltas.LayerLemmas.{IsFolded}
use Rattle.lsp_edit.proofs.joined.Joined.canonical.Given as goal

abbrev pub invariant-loop-layer : goal.invariant-loop-layer
invariant-loop-layer l =
    IsFolded l.self.before (parts_of l.spans.items) (map layer_parts (drop l.layer-index l.layer-items)) l.self.items
