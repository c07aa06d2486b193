use Rattle.lsp_edit.proofs.Prelude.{IfOk-weaker, IsOn, parts_of, subst, units_in}
use Rattle.lsp_edit.proofs.Deltas.DeltaLemmas.{left_resolved, put_layer}
use Rattle.lsp_edit.proofs.delta.Delta.spans.Goals as goal

pub spans_after-requires : goal.spans_after-requires
spans_after-requires c = (
  units_in c.in-Left.batch.encoding,
  c.args.text.now,
  rw c.deref.ensures.value (left_resolved _ _ _ _ _ _ c.len-in-Left.ensures.len
      (subst (IsOn c.args.text.now) c.in-Left.is c.requires.on)),
)

pub returns-in-Put : goal.returns-in-Put
returns-in-Put c = IfOk-weaker c.spans.result _ _ (λ spans is. rw c.in-Put.is
    (put_layer _ _ _ _ _ (subst (IsOn c.args.text.now) c.in-Put.is c.requires.on) c.len.result (parts_of spans.items)
    c.len.ensures.len is)) c.spans.ensures

pub returns-in-Left : goal.returns-in-Left
returns-in-Left c =
    let resolved = left_resolved _ _ _ _ _ _ c.len-in-Left.ensures.len
    (subst (IsOn c.args.text.now) c.in-Left.is c.requires.on) in
    IfOk-weaker c.spans_after.result _ _ (λ spans all. rw c.in-Left.is
    (all (units_in c.in-Left.batch.encoding) c.args.text.now (rw c.deref.ensures.value resolved))) c.spans_after.ensures
