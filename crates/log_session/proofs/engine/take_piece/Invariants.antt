use Rattle.log_session.proofs.Prelude.{pipe_output, ℕ, ◌≡◌, ◌≤◌, ◌-◌, true, List, length, drop, FewWrites, Spends, StaysWell, StaysFlushed, IsReady, IsProgress, RunStart}
use Rattle.log_session.proofs.engine.take_piece.Given as goal

abbrev pub invariant-bytes : goal.invariant-bytes
invariant-bytes g l = record {
  within : l.at ≤ length l.piece;
  ready : IsReady l.splitter;
  version : l.splitter.version ≡ l.fn.splitter.version;
  progress : (start : RunStart) (input : List ℕ)
      → IsProgress start input l.piece l.fn.splitter
      (pipe_output l.fn.pipeline.selection (g.P.Printer.state l.fn.pipeline.printer))
      (g.W.Sink.seen l.fn.writer).written
      → IsProgress start input (drop l.at l.piece) l.splitter
      (pipe_output l.pipeline.selection (g.P.Printer.state l.pipeline.printer))
      (g.W.Sink.seen l.writer).written;
  well : StaysWell (g.W.Sink.seen l.fn.writer).failed (g.W.Sink.seen l.writer).failed;
  flushed : l.flushes ≡ true → StaysFlushed (g.W.Sink.seen l.fn.writer).flushed
      (g.W.Sink.seen l.writer).flushed;
  few : FewWrites (g.W.Sink.seen l.fn.writer) (g.W.Sink.seen l.writer);
  spent : Spends (g.W.Sink.seen l.fn.writer).calls (g.W.Sink.seen l.writer).calls l.fn.turns.left l.turns.left;
}

abbrev pub decreases-bytes : goal.decreases-bytes
decreases-bytes g l = length l.piece - l.at
