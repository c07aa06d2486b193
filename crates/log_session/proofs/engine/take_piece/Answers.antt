use Rattle.log_session.proofs.Prelude.{pipe_output, pipe_quiet, ℕ, ◌+◌, ◌&&◌, not, drop, drop_all, ◌∙◌, arith, err_from_is_err_and, length-take, length-drop, record_of, state_of, common_steps}
use Rattle.log_session.proofs.Runs.ProgressLemmas.{fed_fault, handle_fault, handled, went_fed, write_fault}
use Rattle.log_session.proofs.Runs.CallLemmas.{spends_more}
use Rattle.log_session.proofs.engine.take_piece.Goals as goal

pub returns-in_err-at-clause-error : goal.returns-in_err-at-clause-error
returns-in_err-at-clause-error g c =
    let p = err_from_is_err_and c.from_residual.result c.from_residual.ensures.1 in
    rw (p.1, p.2) (λ start input w ended_before ended.
    fed_fault c.args.piece.now c.bytes.at c.bytes.invariant.within (c.bytes.invariant.progress start input w)
    (state_of ended_before ended (c.args.flushes && not (g.W.Sink.seen c.bytes.writer).flushed)) _
    (pipe_quiet c.bytes.pipeline.selection (g.P.Printer.state c.bytes.pipeline.printer))
    (λ records at. c.in_err-at.ensures.error start.log_rules input records at))

pub returns-in_err-at-clause-calls : goal.returns-in_err-at-clause-calls
returns-in_err-at-clause-calls g c =
    grind (
      arith,
      common_steps,
      err_from_is_err_and,
      c.from_residual.ensures.1,
      c.in_err-at.ensures.kind,
      c.bytes.invariant.well,
      c.bytes.invariant.spent,
    )

pub returns-in_err-given-clause-error : goal.returns-in_err-given-clause-error
returns-in_err-given-clause-error g c =
    let p = err_from_is_err_and c.from_residual-in_err-given.result c.from_residual-in_err-given.ensures.1 in
    rw (p.1, p.2) (λ start input w ended_before ended.
    handle_fault (went_fed c.args.piece.now c.bytes.at c.bytes.invariant.within
    (c.bytes.invariant.progress start input w) c.in_ok-at.field-0 c.feed.new.self
    (λ records at. c.in_ok-at.ensures.is_after start.log_rules input records at))
    (record_of c.in-Some.found) c.in_ok-at.ensures.fed c.in-Some.ensures.0 c.in-Some.ensures.1
    (state_of ended_before ended (c.args.flushes && not (g.W.Sink.seen c.bytes.writer).flushed)) _
    (pipe_quiet c.bytes.pipeline.selection (g.P.Printer.state c.bytes.pipeline.printer)) c.in_err-given.ensures.error)

pub returns-in_err-write_given-clause-error : goal.returns-in_err-write_given-clause-error
returns-in_err-write_given-clause-error g c =
    let p = err_from_is_err_and c.from_residual-in_err-write_given.result
    c.from_residual-in_err-write_given.ensures.1 in
    rw (p.1, p.2) (λ start input w ended_before ended.
    write_fault (went_fed c.args.piece.now c.bytes.at c.bytes.invariant.within
    (c.bytes.invariant.progress start input w) c.in_ok-at.field-0 c.feed.new.self
    (λ records at. c.in_ok-at.ensures.is_after start.log_rules input records at))
    (record_of c.in-Some.found) c.in_ok-at.ensures.fed c.in-Some.ensures.0 c.in-Some.ensures.1 ended_before ended
    (c.args.flushes && not (g.W.Sink.seen c.write_given.new.writer).flushed) c.bytes-output.result.now
    c.in_ok-given.given.end (pipe_output c.handle.new.self.selection (g.P.Printer.state c.handle.new.self.printer))
    _ c.in_ok-given.ensures.ok
    (pipe_quiet c.handle.new.self.selection (g.P.Printer.state c.handle.new.self.printer))
    (rw c.deref.ensures.value at c.bytes-output.ensures)
    c.in_err-write_given.ensures.error c.in_err-write_given.ensures.front c.in_err-write_given.ensures.short)

pub returns-in-Some-end-clause-progress : goal.returns-in-Some-end-clause-progress
returns-in-Some-end-clause-progress g c = λ start input w.
    rw c.in-Some-end.is at (handled (went_fed c.args.piece.now c.bytes.at c.bytes.invariant.within
    (c.bytes.invariant.progress start input w) c.in_ok-at.field-0 c.feed.new.self
    (λ records at. c.in_ok-at.ensures.is_after start.log_rules input records at))
    (record_of c.in-Some.found) c.in_ok-at.ensures.fed c.in-Some.ensures.0 c.in-Some.ensures.1
    (pipe_output c.handle.new.self.selection (g.P.Printer.state c.handle.new.self.printer))
    (g.W.Sink.seen c.write_given.new.writer).written
    c.bytes-output.result.now c.in_ok-given.given.end
    (λ records is_frame_of at. c.next.ensures.is_after start.log_rules input
    (drop (c.bytes.at + c.in_ok-at.field-0) c.args.piece.now) c.in-Some.found.body.now records is_frame_of at)
    c.in_ok-given.ensures.ok (rw c.deref.ensures.value at c.bytes-output.ensures) c.in_ok-write_given.ensures.wrote)

-- no record is complete
pub bytes-preserved-in_default : goal.bytes-preserved-in_default
bytes-preserved-in_default g c = record {
  within = omega (arith, c.in_ok-at.ensures.taken, length-take {A = ℕ}, length-drop {A = ℕ}, c.bytes.invariant.within);
  ready = record { fed = c.in_ok-at.ensures.fed; none = c.in_default.ensures c.in_ok-at.ensures.fed.sound };
  version = c.in_ok-at.ensures.version ∙ c.bytes.invariant.version;
  progress = λ start input w.
      went_fed c.args.piece.now c.bytes.at c.bytes.invariant.within
      (c.bytes.invariant.progress start input w) c.in_ok-at.field-0 c.feed.new.self
      (λ records at. c.in_ok-at.ensures.is_after start.log_rules input records at);
  well = c.bytes.invariant.well;
  flushed = c.bytes.invariant.flushed;
  few = c.bytes.invariant.few;
  spent = c.bytes.invariant.spent;
}

pub bytes-preserved : goal.bytes-preserved
bytes-preserved g c = record {
  within = omega (arith, c.in_ok-at.ensures.taken, length-take {A = ℕ}, length-drop {A = ℕ}, c.bytes.invariant.within);
  ready = c.next.ensures.ready;
  version = c.next.ensures.version ∙ c.in_ok-at.ensures.version ∙ c.bytes.invariant.version;
  progress = λ start input w.
      rw c.in_default-end.is at (handled (went_fed c.args.piece.now c.bytes.at c.bytes.invariant.within
      (c.bytes.invariant.progress start input w) c.in_ok-at.field-0 c.feed.new.self
      (λ records at. c.in_ok-at.ensures.is_after start.log_rules input records at))
      (record_of c.in-Some.found) c.in_ok-at.ensures.fed c.in-Some.ensures.0 c.in-Some.ensures.1
      (pipe_output c.handle.new.self.selection (g.P.Printer.state c.handle.new.self.printer))
      (g.W.Sink.seen c.write_given.new.writer).written
      c.bytes-output.result.now c.in_ok-given.given.end
      (λ records is_frame_of at. c.next.ensures.is_after start.log_rules input
      (drop (c.bytes.at + c.in_ok-at.field-0) c.args.piece.now) c.in-Some.found.body.now records is_frame_of at)
      c.in_ok-given.ensures.ok (rw c.deref.ensures.value at c.bytes-output.ensures) c.in_ok-write_given.ensures.wrote);
  well = λ before. c.in_ok-write_given.ensures.calls.well (c.bytes.invariant.well before);
  flushed = λ holds before. c.in_ok-write_given.ensures.flushed holds;
  few = omega (arith, c.bytes.invariant.few, c.in_ok-write_given.ensures.few.ok);
  spent = spends_more c.bytes.invariant.spent c.in_ok-write_given.ensures.calls.spent;
}

pub returns-clause-progress : goal.returns-clause-progress
returns-clause-progress g c = λ start input w.
    rw (drop_all c.bytes.at c.args.piece.now c.bytes-test.false) at (c.bytes.invariant.progress start input w)
