use Rattle.log_rewrite.proofs.Prelude.{drop, ap, ◌∙◌, take_at, mark_of, line_if}
use Rattle.log_rewrite.proofs.NormaliseLog.AppendLemmas.{appended_framed}
use Rattle.log_rewrite.proofs.printer.normalise.push_record.Goals as goal

pub returns-clause-ok : goal.returns-clause-ok
returns-clause-ok c = λ max_body canonical_log body room len error.
    appended_framed max_body (record { head = c.args.item.now.head; raw = c.args.item.now.raw.now; body = body })
    (line_if c.args.item.now.head.line_due) (mark_of c.args.item.now.head.version c.args.item.now.head.side)
    canonical_log room c.args.canonical.now.bytes.items _ 64 len
    (rw (c.in-Some.is, c.in_ok-within_limit.ensures.ok) at error)
    (ap (drop c.put_front-start.result) (take_at c.put_front-start.new.buffer _ _ (c.put_front-start.auto.buffer
    ∙ c.deref_mut.ensures.len))
    ∙ (rw (c.deref_mut.ensures.value, c.swap.ensures.x_after) at c.put_front-start.ensures))
