use Rattle.lsp_edit.proofs.Prelude.{IfOk-weaker, layer_parts}
use Rattle.lsp_edit.proofs.Deltas.OwnedLemmas.{layer_same}
use Rattle.lsp_edit.proofs.delta.Delta.layer.Goals as goal

pub returns : goal.returns
returns c = IfOk-weaker c.of_spans.result _ _ (λ layer same.
    layer_same (layer_parts layer) c.in_ok-spans.ensures (rw c.deref.ensures.value at same)) c.of_spans.ensures
