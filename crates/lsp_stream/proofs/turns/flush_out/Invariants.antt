use Rattle.std.specs.Prelude.{◌≡◌, false}
use Rattle.std.specs.Io.KnownBytes.{Keeps}
use Rattle.lsp_stream.specs.Ports.{FewWrites}
use Rattle.lsp_stream.specs.Turns.{Spends, StaysWell}
use Rattle.lsp_stream.proofs.turns.flush_out.Given as goal

abbrev pub invariant-flushes : goal.invariant-flushes
invariant-flushes g l = record {
  kept : Keeps (g.W.Sink.seen l.fn.writer).written (g.W.Sink.seen l.writer).written;
  well : StaysWell (g.W.Sink.seen l.fn.writer).failed (g.W.Sink.seen l.writer).failed;
  flushed : (g.W.Sink.seen l.writer).flushed ≡ (g.W.Sink.seen l.fn.writer).flushed;
  few : (g.W.Sink.seen l.fn.writer).flushed ≡ false → FewWrites (g.W.Sink.seen l.fn.writer) (g.W.Sink.seen l.writer);
  spent : Spends (g.W.Sink.seen l.fn.writer).calls (g.W.Sink.seen l.writer).calls l.fn.turns.left l.turns.left;
}

abbrev pub decreases-flushes : goal.decreases-flushes
decreases-flushes g l = l.turns.left
