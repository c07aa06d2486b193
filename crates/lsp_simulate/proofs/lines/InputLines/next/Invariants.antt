use Rattle.lsp_simulate.proofs.Prelude.{◌≤◌, Spends, Passed, is_begun, rest, size}
use Rattle.lsp_simulate.proofs.lines.InputLines.next.Given as goal

abbrev pub invariant-pieces : goal.invariant-pieces
invariant-pieces g l = record {
  passed : Passed (rest l.fn.self (g.R.Source.seen l.fn.input)) 0 (is_begun l.line.items)
      (rest l.self (g.R.Source.seen l.input));
  size : size l.self ≤ size l.fn.self;
  spent : Spends (g.R.Source.seen l.fn.input).calls (g.R.Source.seen l.input).calls l.fn.self.turns.left
      l.self.turns.left;
}

abbrev pub decreases-pieces : goal.decreases-pieces
decreases-pieces g l = l.self.turns.left
