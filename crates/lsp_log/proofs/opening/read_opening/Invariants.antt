use Rattle.lsp_log.proofs.Prelude.{◌≡◌, ◌<◌, ◌≤◌, ◌+◌, false, take, Consumes, IsLineFront}
use Rattle.lsp_stream.specs.Turns.{Spends, StaysWell}
use Rattle.lsp_log.proofs.opening.read_opening.Given as goal

abbrev pub invariant-opening : goal.invariant-opening
invariant-opening g l = record {
  within : l.len < 18;
  front : IsLineFront (take l.len l.buf);
  unread : l.fn.versions ≡ false → l.len ≡ 0;
  read : Consumes (g.R.Source.seen l.fn.reader).left (g.R.Source.seen l.reader).left (take l.len l.buf);
  not_ended : (g.R.Source.seen l.fn.reader).ended ≡ false → (g.R.Source.seen l.reader).ended ≡ false;
  well : StaysWell (g.R.Source.seen l.fn.reader).failed (g.R.Source.seen l.reader).failed;
  few : (g.R.Source.seen l.reader).calls + (g.R.Source.seen l.reader).calls_left
      ≤ (g.R.Source.seen l.fn.reader).calls + (g.R.Source.seen l.fn.reader).calls_left;
  spent : Spends (g.R.Source.seen l.fn.reader).calls (g.R.Source.seen l.reader).calls l.fn.turns.left l.turns.left;
}

abbrev pub decreases-opening : goal.decreases-opening
decreases-opening g l = l.turns.left
