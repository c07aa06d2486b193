use Rattle.std.proofs.Common.{length, ◌≤◌}
use Rattle.lsp_log.specs.Splitting.{IsReady}
use Rattle.lspsync.proofs.reached.front_of.Given as goal

abbrev pub invariant-pieces : goal.invariant-pieces
invariant-pieces g l = record {
  from : l.from ≤ l.to;
  to : l.to ≤ length l.buf;
  ready : IsReady l.cut.splitter;
}

abbrev pub decreases-pieces : goal.decreases-pieces
decreases-pieces g l = l.turns.left
