use Rattle.log_session.proofs.Prelude.{pipe_output, ◌≡◌, true, List, ℕ, [], ◌++◌, Appends, FewWrites, Spends, StaysWell, StaysFlushed}
use Rattle.log_session.proofs.engine.write_last.Given as goal

abbrev pub invariant-parts : goal.invariant-parts
invariant-parts g l = record {
  wrote : (out : List ℕ) ×
      ((pipe_output l.fn.pipeline.selection (g.P.Printer.state l.fn.pipeline.printer) []).last l.fn.line_due
      ≡ out ++ (pipe_output l.pipeline.selection (g.P.Printer.state l.pipeline.printer) []).last l.due) × Appends
      (g.W.Sink.seen l.fn.writer).written
      (g.W.Sink.seen l.writer).written out
      × (g.P.Printer.parts l.fn.pipeline.printer ≡ 0 → (g.P.Printer.parts l.pipeline.printer ≡ 0) × (out ≡ []));
  outcome : (pipe_output l.pipeline.selection (g.P.Printer.state l.pipeline.printer) []).outcome ≡
      (pipe_output l.fn.pipeline.selection (g.P.Printer.state l.fn.pipeline.printer) []).outcome;
  well : StaysWell (g.W.Sink.seen l.fn.writer).failed (g.W.Sink.seen l.writer).failed;
  flushed : l.flushes ≡ true → StaysFlushed (g.W.Sink.seen l.fn.writer).flushed
      (g.W.Sink.seen l.writer).flushed;
  few : FewWrites (g.W.Sink.seen l.fn.writer) (g.W.Sink.seen l.writer);
  spent : Spends (g.W.Sink.seen l.fn.writer).calls (g.W.Sink.seen l.writer).calls l.fn.turns.left l.turns.left;
}

abbrev pub decreases-parts : goal.decreases-parts
decreases-parts g l = g.P.Printer.parts l.pipeline.printer
