use Rattle.log_session.proofs.Prelude.{pipe_output, pipe_quiet, refl, arith, ◌≡◌, ◌-◌, ℕ, List, sym, ap, ◌∙◌, subst, length, take, drop, length-take, Consumes, err_from_is_err_and, ports, reading_by, start_at}
use Rattle.log_session.proofs.Runs.AnswerLemmas.{for_parts}
use Rattle.log_session.proofs.Runs.CallLemmas.{calls_none, calls_read, calls_wrote, in_time, loop_bad, loop_ok, loop_read_fault, loop_write, loop_write_fault, n_is_zero, reads_more, rose_more, zero_is}
use Rattle.log_session.proofs.Runs.RunLemmas.{not_at_end, ran_by, ran_refused, ran_unopened, ran_unread, runs_at_start, runs_more, runs_on}
use Rattle.log_session.proofs.engine.run_on.Goals as goal

pub returns-in_err-opening-clause-run : goal.returns-in_err-opening-clause-run
returns-in_err-opening-clause-run g c =
    let p = err_from_is_err_and c.from_residual.result c.from_residual.ensures.1 in
    rw (p.1, p.2) (loop_read_fault (calls_none c.new-turns.ensures) _
    (rw c.reader.ensures.value at c.in_err-opening.ensures.calls)
    (rw c.reader.ensures.value at c.in_err-opening.ensures.few)
    (ran_unopened (start_at (reading_by c.args.rules)
    (pipe_output c.args.pipeline.now.selection (g.P.Printer.state c.args.pipeline.now.printer))
    (ports (g.R.Source.seen c.args.ends.now.reader.now) (g.W.Sink.seen c.args.ends.now.writer.now)))
    (pipe_quiet c.args.pipeline.now.selection (g.P.Printer.state c.args.pipeline.now.printer))
    (rw c.reader.ensures.value at c.in_err-opening.ensures.below) c.in_err-opening.ensures.calls.fault
    (λ is. ((rw c.reader.ensures.value at c.in_err-opening.ensures.calls.failed) is).1)
    (rw c.reader.ensures.value at c.in_err-opening.ensures.calls.not_ended)))

pub returns-in_err-accept-clause-run : goal.returns-in_err-accept-clause-run
returns-in_err-accept-clause-run g c =
    let p = err_from_is_err_and c.from_residual-in_err-accept.result c.from_residual-in_err-accept.ensures.1 in
    let why = c.in_err-accept.ensures.error in
    rw (p.1, p.2, why.0) (loop_bad (calls_read (calls_none c.new-turns.ensures)
    (rw c.reader.ensures.value at c.in_ok-opening.ensures.calls)
    (rw c.reader.ensures.value at c.in_ok-opening.ensures.few)) 0
    (λ error. (
      c.in_ok-opening.ensures.at_end (c.in_ok-opening.ensures.ended.0 error),
      rw c.reader.ensures.value at c.in_ok-opening.ensures.calls.rose,
    ))
    (ran_refused (start_at (reading_by c.args.rules)
    (pipe_output c.args.pipeline.now.selection (g.P.Printer.state c.args.pipeline.now.printer))
    (ports (g.R.Source.seen c.args.ends.now.reader.now) (g.W.Sink.seen c.args.ends.now.writer.now)))
    _ c.in_ok-opening.opening.version (refl, why.1, why.2)
    (rw c.reader.ensures.value at c.in_ok-opening.ensures.read)
    (λ more none. c.in_ok-opening.ensures.known more (λ _. none))))

pub pieces-init : goal.pieces-init
pieces-init g c = record {
  from = omega (arith, ap length c.line-from.ensures, c.in_ok-opening.ensures.line);
  to = c.in_ok-opening.ensures.bound;
  ready = c.new-splitter.ensures.ready;
  runs = runs_at_start (start_at (reading_by c.args.rules)
      (pipe_output c.args.pipeline.now.selection (g.P.Printer.state c.args.pipeline.now.printer))
      (ports (g.R.Source.seen c.args.ends.now.reader.now) (g.W.Sink.seen c.args.ends.now.writer.now)))
      c.in_ok-opening.opening.len _ _ _ c.in_ok-opening.opening.version c.in_ok-opening.ensures.bound
      c.in_ok-opening.ensures.fits (ap length c.line-from.ensures) refl c.new-splitter.ensures.version
      (rw c.reader.ensures.value at c.in_ok-opening.ensures.read) c.in_ok-opening.ensures.known
      c.in_ok-opening.ensures.line c.in_ok-opening.ensures.front c.in_ok-accept.ensures.ok
      (λ input more at_start. c.new-splitter.ensures.is_after (reading_by c.args.rules) input more refl at_start);
  calls = calls_read (calls_none c.new-turns.ensures) (rw c.reader.ensures.value at c.in_ok-opening.ensures.calls)
      (rw c.reader.ensures.value at c.in_ok-opening.ensures.few);
  ended = c.in_ok-opening.ensures.ended;
  at_end = λ error. (
    c.in_ok-opening.ensures.at_end (c.in_ok-opening.ensures.ended.0 error),
    rw c.reader.ensures.value at c.in_ok-opening.ensures.calls.rose,
  );
  in_time = λ _ before. in_time _ _ before;
  same_reader = refl;
  same_writer = refl;
}

pub returns-in_err-end-clause-run : goal.returns-in_err-end-clause-run
returns-in_err-end-clause-run g c =
    let p = err_from_is_err_and c.from_residual-in_err-end.result c.from_residual-in_err-end.ensures.1 in
    rw (p.1, p.2) (loop_write_fault c.pieces.invariant.calls _ c.in_err-end.ensures.not_read
    (rw c.writer.ensures.value at c.in_err-end.ensures.calls) (rw c.writer.ensures.value at c.in_err-end.ensures.few)
    (rw c.writer.ensures.value at c.in_err-end.ensures.all_flushed) c.pieces.invariant.at_end
    (ran_by c.pieces.invariant.runs (for_parts (λ _. tt)
    ((rw c.writer.ensures.value at c.in_err-end.ensures.error) _ c.pieces.invariant.runs.input
    c.pieces.invariant.runs.progress _ _))))

pub returns-in-Some-clause-run : goal.returns-in-Some-clause-run
returns-in-Some-clause-run g c =
    loop_ok (calls_wrote c.pieces.invariant.calls (rw c.writer.ensures.value at c.in_ok-end.ensures.calls)
    (rw c.writer.ensures.value at c.in_ok-end.ensures.few)
    (rw c.writer.ensures.value at c.in_ok-end.ensures.all_flushed)) c.in-Some.outcome
    c.pieces.invariant.at_end
    (ran_by c.pieces.invariant.runs (for_parts (λ _. tt)
    ((rw c.in-Some.is at ((rw c.writer.ensures.value at c.in_ok-end.ensures.progress) _
    c.pieces.invariant.runs.input c.pieces.invariant.runs.progress)) _ _ _)))

pub returns-then-ended-clause-run : goal.returns-then-ended-clause-run
returns-then-ended-clause-run g c =
    let runs = runs_on c.pieces.invariant.runs c.in_ok-end.ensures.version
    (rw c.in_default.is at ((rw c.writer.ensures.value at c.in_ok-end.ensures.progress) _
    c.pieces.invariant.runs.input c.pieces.invariant.runs.progress)) in
    loop_write (calls_wrote c.pieces.invariant.calls (rw c.writer.ensures.value at c.in_ok-end.ensures.calls)
    (rw c.writer.ensures.value at c.in_ok-end.ensures.few)
    (rw c.writer.ensures.value at c.in_ok-end.ensures.all_flushed)) c.finish_run.result
    c.finish_run.ensures.not_read (rw c.writer-then-ended.ensures.value at c.finish_run.ensures.calls)
    (rw c.writer-then-ended.ensures.value at c.finish_run.ensures.few)
    (rw c.writer-then-ended.ensures.value at c.finish_run.ensures.all_flushed) c.pieces.invariant.at_end
    (ran_by runs (for_parts (λ one. one c.take_piece.new.pipeline.printer)
    ((rw c.writer-then-ended.ensures.value at c.finish_run.ensures.answer) _ runs.input runs.progress runs.placed _ _
    (c.pieces.invariant.ended.1 c.if-ended.true))))

pub returns-in_err-to-clause-run : goal.returns-in_err-to-clause-run
returns-in_err-to-clause-run g c =
    let p = err_from_is_err_and c.from_residual-in_err-to.result c.from_residual-in_err-to.ensures.1 in
    let open_still = not_at_end (g.R.Source.seen c.pieces.ends.reader.now).ended c.pieces.ended
    c.pieces.invariant.ended.0
    c.if-ended.false in
    rw (p.1, p.2) (loop_read_fault (calls_wrote c.pieces.invariant.calls
    (rw c.writer.ensures.value at c.in_ok-end.ensures.calls)
    (rw c.writer.ensures.value at c.in_ok-end.ensures.few)
    (rw c.writer.ensures.value at c.in_ok-end.ensures.all_flushed)) _
    (rw c.reader-in-pieces.ensures.value at c.in_err-to.ensures.calls)
    (reads_more c.pieces.invariant.calls open_still (rw c.reader-in-pieces.ensures.value at c.in_err-to.ensures.few))
    (ran_unread (runs_on c.pieces.invariant.runs c.in_ok-end.ensures.version
    (rw c.in_default.is at ((rw c.writer.ensures.value at c.in_ok-end.ensures.progress) _
    c.pieces.invariant.runs.input c.pieces.invariant.runs.progress)))
    c.in_ok-end.ensures.ready
    (pipe_quiet c.take_piece.new.pipeline.selection (g.P.Printer.state c.take_piece.new.pipeline.printer))
    (rw c.reader-in-pieces.ensures.value at c.in_err-to.ensures.kept) c.in_err-to.ensures.calls.fault
    (λ is. ((rw c.reader-in-pieces.ensures.value at c.in_err-to.ensures.calls.failed) is).1)
    (λ is _. (rw c.reader-in-pieces.ensures.value at c.in_err-to.ensures.calls.not_ended) is open_still)))

pub pieces-preserved : goal.pieces-preserved
pieces-preserved g c =
    let piece : take (c.in_ok-to.to - 0) (drop 0 c.read_piece.new.buf) ≡ take c.in_ok-to.to c.read_piece.new.buf =
    ap (λ n. take n c.read_piece.new.buf) (omega arith) in
    record {
      from = omega arith;
      to = c.in_ok-to.ensures.bound;
      ready = c.in_ok-end.ensures.ready;
      runs = runs_more (runs_on c.pieces.invariant.runs c.in_ok-end.ensures.version
          (rw c.in_default.is at ((rw c.writer.ensures.value at c.in_ok-end.ensures.progress) _
          c.pieces.invariant.runs.input c.pieces.invariant.runs.progress))) c.in_ok-to.to
          c.if-ended.false
          (omega (arith, ap length piece, length-take c.in_ok-to.to c.read_piece.new.buf, c.in_ok-to.ensures.bound))
          c.saturating_add-place.ensures
          (subst (λ (z : List ℕ). Consumes (g.R.Source.seen c.pieces.ends.reader.now).left
          (g.R.Source.seen c.read_piece.new.reader).left z) (sym piece)
          (rw c.reader-in-pieces.ensures.value at c.in_ok-to.ensures.read));
      calls = calls_read (calls_wrote c.pieces.invariant.calls (rw c.writer.ensures.value at c.in_ok-end.ensures.calls)
          (rw c.writer.ensures.value at c.in_ok-end.ensures.few)
          (rw c.writer.ensures.value at c.in_ok-end.ensures.all_flushed))
          (rw c.reader-in-pieces.ensures.value at c.in_ok-to.ensures.calls)
          (reads_more c.pieces.invariant.calls (not_at_end (g.R.Source.seen c.pieces.ends.reader.now).ended
          c.pieces.ended c.pieces.invariant.ended.0
          c.if-ended.false)
          (rw c.reader-in-pieces.ensures.value at c.in_ok-to.ensures.few));
      ended = (
        λ error. n_is_zero c.in_ok-to.to (c.in_ok-to.ensures.ended.0 error),
        λ zero. c.in_ok-to.ensures.ended.1 (zero_is c.in_ok-to.to zero),
      );
      at_end = λ error. (
        c.in_ok-to.ensures.at_end (c.in_ok-to.ensures.ended.0 error),
        rose_more _ _ _ c.pieces.invariant.calls.spent.reads
            (rw c.reader-in-pieces.ensures.value at c.in_ok-to.ensures.calls.rose),
      );
      in_time = λ holds before. in_time _ _ ((rw c.writer.ensures.value at c.in_ok-end.ensures.all_flushed.flushed)
          holds (c.pieces.invariant.calls.flushed holds before)) ∙ c.pieces.invariant.in_time holds before;
      same_reader = c.pieces.invariant.same_reader;
      same_writer = c.pieces.invariant.same_writer;
    }
