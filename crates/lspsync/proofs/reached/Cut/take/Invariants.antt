use Rattle.std.proofs.Common.{length, ◌-◌, ◌≤◌}
use Rattle.lsp_log.specs.Splitting.{IsReady}
use Rattle.lspsync.proofs.reached.Cut.take.Given as goal

abbrev pub invariant-bytes : goal.invariant-bytes
invariant-bytes l = record { within : l.at ≤ length l.piece; ready : IsReady l.self.splitter }

abbrev pub decreases-bytes : goal.decreases-bytes
decreases-bytes l = length l.piece - l.at
