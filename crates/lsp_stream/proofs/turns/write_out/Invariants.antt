use Rattle.std.specs.Prelude.{◌≤◌, length, take}
use Rattle.std.specs.Io.KnownBytes.{Appends}
use Rattle.lsp_stream.specs.Ports.{FewWrites}
use Rattle.lsp_stream.specs.Turns.{Spends, StaysWell}
use Rattle.lsp_stream.proofs.turns.write_out.Given as goal

abbrev pub invariant-writes : goal.invariant-writes
invariant-writes g l = record {
  within : l.at ≤ length l.bytes;
  wrote : Appends (g.W.Sink.seen l.fn.writer).written (g.W.Sink.seen l.writer).written (take l.at l.bytes);
  well : StaysWell (g.W.Sink.seen l.fn.writer).failed (g.W.Sink.seen l.writer).failed;
  few : FewWrites (g.W.Sink.seen l.fn.writer) (g.W.Sink.seen l.writer);
  spent : Spends (g.W.Sink.seen l.fn.writer).calls (g.W.Sink.seen l.writer).calls l.fn.turns.left l.turns.left;
}

abbrev pub decreases-writes : goal.decreases-writes
decreases-writes g l = l.turns.left
