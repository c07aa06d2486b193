use Rattle.lsp_edit.proofs.Prelude.{arith, parts_of, IfOk-weaker}
use Rattle.lsp_edit.proofs.Deltas.PuttingLemmas.{any_halves, any_mean, enough_ends, first_resolved, ordered, second_resolved, short}
use Rattle.lsp_edit.proofs.delta.spans.+spans_after.Goals as goal

pub split_at-requires-2 : goal.split_at-requires-2
split_at-requires-2 t c = enough_ends _ _ _ _ _ _ c.requires.2 (omega arith)

pub spans_after-requires : goal.spans_after-requires
spans_after-requires t c = (
  omega (arith, c.decreases, c.split_at.ensures.front_len),
  (
    c.requires.0,
    c.requires.1,
    first_resolved _ _ _ _ _ _ c.requires.2 (omega arith) _ _ _ _ c.split_at.ensures.front c.split_at.ensures.back
        c.split_at-2.ensures.front c.split_at-2.ensures.back,
  ),
)

pub len_of-len-requires : goal.len_of-len-requires
len_of-len-requires t c =
    let at = first_resolved _ _ _ _ _ _ c.requires.2 (omega arith) _ _ _ _ c.split_at.ensures.front
    c.split_at.ensures.back c.split_at-2.ensures.front c.split_at-2.ensures.back in
    let one = c.in_ok-first_spans.ensures c.requires.0 c.requires.1 at in
    rw c.deref.ensures.value (record {
      ordered = ordered _ _ _ _ _ _ c.requires.2 (omega arith) _ _ _ _ c.split_at.ensures.front c.split_at.ensures.back
          c.split_at-2.ensures.front c.split_at-2.ensures.back _ one;
      short = short _ _ _ _ _ _ c.requires.2 (omega arith) _ _ _ _ c.split_at.ensures.front c.split_at.ensures.back
          c.split_at-2.ensures.front c.split_at-2.ensures.back _ one;
    })

pub spans_after-requires-2 : goal.spans_after-requires-2
spans_after-requires-2 t c =
    let at = first_resolved _ _ _ _ _ _ c.requires.2 (omega arith) _ _ _ _ c.split_at.ensures.front
    c.split_at.ensures.back c.split_at-2.ensures.front c.split_at-2.ensures.back in
    let one = c.in_ok-first_spans.ensures c.requires.0 c.requires.1 at in (
      omega (arith, c.decreases, c.split_at.ensures.back_len),
      (
        c.requires.0,
        _,
        second_resolved _ _ _ _ _ _ c.requires.2 (omega arith) _ _ _ _ c.split_at.ensures.front c.split_at.ensures.back
            c.split_at-2.ensures.front c.split_at-2.ensures.back _ one _
            (rw c.deref.ensures.value at c.len_of-len.ensures),
      ),
    )

pub spans_through-requires-clause-through : goal.spans_through-requires-clause-through
spans_through-requires-clause-through t c =
    rw (c.deref-2.ensures.value, c.deref-3.ensures.value)
    (any_halves c.args.len c.args.changes.now c.args.ends.now _ (omega arith) _ _ _ _ c.split_at.ensures.front
    c.split_at.ensures.back c.split_at-2.ensures.front c.split_at-2.ensures.back c.len_of-len.result
    (parts_of c.in_ok-first_spans.first_spans.items) (parts_of c.in_ok-second_spans.second_spans.items)
    (rw c.deref.ensures.value at c.len_of-len.ensures) c.in_ok-first_spans.ensures c.in_ok-second_spans.ensures
    c.requires.0 c.requires.1 c.requires.2).through

pub spans_through-requires-clause-order : goal.spans_through-requires-clause-order
spans_through-requires-clause-order t c =
    rw c.deref-3.ensures.value
    (any_halves c.args.len c.args.changes.now c.args.ends.now _ (omega arith) _ _ _ _ c.split_at.ensures.front
    c.split_at.ensures.back c.split_at-2.ensures.front c.split_at-2.ensures.back c.len_of-len.result
    (parts_of c.in_ok-first_spans.first_spans.items) (parts_of c.in_ok-second_spans.second_spans.items)
    (rw c.deref.ensures.value at c.len_of-len.ensures) c.in_ok-first_spans.ensures c.in_ok-second_spans.ensures
    c.requires.0 c.requires.1 c.requires.2).order

pub returns : goal.returns
returns t c = IfOk-weaker c.spans_through.result _ _ (λ spans same units before r.
    any_mean c.args.len c.args.changes.now c.args.ends.now _ (omega arith) _ _ _ _ c.split_at.ensures.front
    c.split_at.ensures.back c.split_at-2.ensures.front c.split_at-2.ensures.back c.len_of-len.result
    (parts_of c.in_ok-first_spans.first_spans.items) (parts_of c.in_ok-second_spans.second_spans.items)
    (rw c.deref.ensures.value at c.len_of-len.ensures) c.in_ok-first_spans.ensures c.in_ok-second_spans.ensures
    units before r
    (parts_of spans.items) (rw (c.deref-2.ensures.value, c.deref-3.ensures.value) at same)) c.spans_through.ensures
