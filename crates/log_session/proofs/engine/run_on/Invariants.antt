use Rattle.log_session.proofs.Prelude.{pipe_output, ◌≡◌, ◌≤◌, ◌↔◌, ◌-◌, true, length, take, drop, IsAtEnd, Rose, IsReady, Runs, CallsSoFar, ports, reading_by, start_at}
use Rattle.log_session.proofs.engine.run_on.Given as goal

abbrev pub invariant-pieces : goal.invariant-pieces
invariant-pieces g l = record {
  from : l.from ≤ l.to;
  to : l.to ≤ length l.buf;
  ready : IsReady l.splitter;
  runs : Runs (start_at (reading_by l.fn.rules)
      (pipe_output l.fn.pipeline.selection (g.P.Printer.state l.fn.pipeline.printer))
      (ports (g.R.Source.seen l.fn.ends.reader.now) (g.W.Sink.seen l.fn.ends.writer.now)))
      (g.R.Source.seen l.ends.reader.now).left l.ended l.place (take (l.to - l.from) (drop l.from l.buf)) l.splitter
      (pipe_output l.pipeline.selection (g.P.Printer.state l.pipeline.printer))
      (g.W.Sink.seen l.ends.writer.now).written;
  calls : CallsSoFar l.flushes l.fn.max_turns l.turns.left
      (ports (g.R.Source.seen l.fn.ends.reader.now) (g.W.Sink.seen l.fn.ends.writer.now))
      (ports (g.R.Source.seen l.ends.reader.now) (g.W.Sink.seen l.ends.writer.now));
  ended : (g.R.Source.seen l.ends.reader.now).ended ≡ true ↔ l.ended ≡ true;
  at_end : (g.R.Source.seen l.ends.reader.now).ended ≡ true → IsAtEnd (g.R.Source.seen l.ends.reader.now).left
      × Rose (g.R.Source.seen l.fn.ends.reader.now).calls (g.R.Source.seen l.ends.reader.now).calls;
  in_time : l.flushes ≡ true → (g.W.Sink.seen l.fn.ends.writer.now).flushed ≡ true → l.ends.read_early
      ≡ l.fn.ends.read_early;
  same_reader : l.ends.reader.ghost_name ≡ l.fn.ends.reader.ghost_name;
  same_writer : l.ends.writer.ghost_name ≡ l.fn.ends.writer.ghost_name;
}

abbrev pub decreases-pieces : goal.decreases-pieces
decreases-pieces g l = l.turns.left
