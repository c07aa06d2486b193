use Rattle.std.specs.Prelude.{◌≡◌, ◌≤◌, ◌+◌, false}
use Rattle.std.specs.Io.KnownBytes.{Keeps}
use Rattle.lsp_stream.specs.Turns.{Spends, StaysWell}
use Rattle.lsp_stream.proofs.turns.read_piece.Given as goal

abbrev pub invariant-reads : goal.invariant-reads
invariant-reads g l = record {
  kept : Keeps (g.R.Source.seen l.fn.reader).left (g.R.Source.seen l.reader).left;
  well : StaysWell (g.R.Source.seen l.fn.reader).failed (g.R.Source.seen l.reader).failed;
  not_ended : (g.R.Source.seen l.fn.reader).ended ≡ false → (g.R.Source.seen l.reader).ended ≡ false;
  few : (g.R.Source.seen l.reader).calls + (g.R.Source.seen l.reader).calls_left
      ≤ (g.R.Source.seen l.fn.reader).calls + (g.R.Source.seen l.fn.reader).calls_left;
  spent : Spends (g.R.Source.seen l.fn.reader).calls (g.R.Source.seen l.reader).calls l.fn.turns.left l.turns.left;
}

abbrev pub decreases-reads : goal.decreases-reads
decreases-reads g l = l.turns.left
