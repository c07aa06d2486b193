use Rattle.lsp_edit.proofs.joined.layer.Layer.then.Goals as goal

pub returns : goal.returns
returns c =
    rw (
      c.deref-3.ensures.value,
      c.in_ok-both.ensures,
      c.deref.ensures.value,
      c.deref-2.ensures.value,
      c.in_ok-first.ensures,
      c.in_ok-second.ensures,
    ) at c.of_spans.ensures
