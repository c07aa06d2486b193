use Rattle.log_session.proofs.Prelude.{pipe_output, [], ◌++◌, refl, sym, ◌∙◌, ap, append_assoc, append-nil, arith, err_from_is_err_and, Appends-trans}
use Rattle.log_session.proofs.Runs.CallLemmas.{spends_more}
use Rattle.log_session.proofs.Runs.ProgressLemmas.{part_fault, part_is}
use Rattle.log_session.proofs.engine.write_last.Goals as goal

pub returns-in_err-end-clause-last : goal.returns-in_err-end-clause-last
returns-in_err-end-clause-last g c =
    let p = err_from_is_err_and c.from_residual.result c.from_residual.ensures.1 in
    let before = c.parts.invariant.wrote in
    rw (p.1, p.2, c.in_err-end.ensures.error) (record {
      written = before.0;
      left = (pipe_output c.parts.pipeline.selection (g.P.Printer.state c.parts.pipeline.printer) []).last c.parts.due;
      is = before.1;
      wrote = before.2;
      cause = λ one. (before.3 one).1;
    })

pub returns-in_err-write_given-clause-last : goal.returns-in_err-write_given-clause-last
returns-in_err-write_given-clause-last g c =
    let p = err_from_is_err_and c.from_residual-in_err-write_given.result
    c.from_residual-in_err-write_given.ensures.1 in
    let part = part_is c.in_ok-end.end
    ((pipe_output c.parts.pipeline.selection (g.P.Printer.state c.parts.pipeline.printer) []).last c.parts.due)
    c.finish.new.buffer.items _ _ _ _ c.in_ok-end.ensures.ok in
    let before = c.parts.invariant.wrote in
    rw (p.1, p.2) (part_fault (g.W.Sink.seen c.parts.writer).written before.0 c.finish.new.buffer.items part.0 _
    (before.1 ∙ ap (λ z. before.0 ++ z) part.1) before.2 c.in_err-write_given.ensures.error
    (rw c.deref.ensures.value at c.in_err-write_given.ensures.front)
    (rw c.deref.ensures.value at c.in_err-write_given.ensures.short))

pub returns-in-Some-clause-last : goal.returns-in-Some-clause-last
returns-in-Some-clause-last g c =
    let part = rw c.in-Some.is at c.in_ok-end.ensures.ok in
    let before = c.parts.invariant.wrote in
    record {
      written = before.0 ++ c.finish.new.buffer.items;
      left = [];
      is = before.1 ∙ ap (λ z. before.0 ++ z) part.0 ∙ sym (append-nil (before.0 ++ c.finish.new.buffer.items));
      wrote = Appends-trans _ _ _ before.0 c.finish.new.buffer.items before.2
          (rw c.deref.ensures.value at c.in_ok-write_given.ensures.wrote);
      cause = (part.1 ∙ c.parts.invariant.outcome, refl);
    }

pub parts-preserved : goal.parts-preserved
parts-preserved g c =
    let part = rw c.in-None.is at c.in_ok-end.ensures.ok in
    let before = c.parts.invariant.wrote in
    record {
      wrote = (
        before.0 ++ c.finish.new.buffer.items,
        before.1 ∙ ap (λ z. before.0 ++ z) part.0
            ∙ sym (append_assoc before.0 c.finish.new.buffer.items
            ((pipe_output c.finish.new.self.selection (g.P.Printer.state c.finish.new.self.printer) []).last
            _)),
        Appends-trans _ _ _ before.0 c.finish.new.buffer.items before.2
            (rw c.deref.ensures.value at c.in_ok-write_given.ensures.wrote),
        λ one. absurd (omega (arith, part.2, (before.3 one).0)),
      );
      outcome = part.1 ∙ c.parts.invariant.outcome;
      well = λ before. c.in_ok-write_given.ensures.calls.well (c.parts.invariant.well before);
      flushed = λ holds _. c.in_ok-write_given.ensures.flushed holds;
      few = omega (arith, c.parts.invariant.few, c.in_ok-write_given.ensures.few.ok);
      spent = spends_more c.parts.invariant.spent c.in_ok-write_given.ensures.calls.spent;
    }
