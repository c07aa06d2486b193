use Rattle.lsp_edit.proofs.Prelude.{IfOk-weaker, items_of, parts_of, chars, ◌∙◌}
use Rattle.lsp_edit.proofs.Deltas.DeltaLemmas.{canonical_same, delta_keeps}
use Rattle.lsp_edit.proofs.delta.Delta.canonical.Goals as goal

pub canonical_of-requires : goal.canonical_of-requires
canonical_of-requires c = rw (c.text.ensures, c.deref.ensures.value) (record {
  parts = c.in_ok-spans.ensures.are;
  keeps = delta_keeps c.args.text.now c.args.self.now (items_of (chars c.args.text.now)
      (parts_of c.in_ok-spans.spans.items)) c.requires.on c.in_ok-spans.ensures.means;
})

pub returns : goal.returns
returns c = IfOk-weaker c.canonical_of.result _ _ (λ changes same. canonical_same c.args.text.now c.args.self.now
    c.in_ok-spans.ensures.means (rw (c.text.ensures, c.deref.ensures.value, c.encoding.ensures) at same))
    c.canonical_of.ensures
