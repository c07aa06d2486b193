use Rattle.lsp_simulate.proofs.Prelude.{◌+◌, Spends, allowed_turns, rest, size, IsUnderWay}
use Rattle.lsp_simulate.proofs.session.simulate.Given as goal

abbrev pub invariant-events : goal.invariant-events
invariant-events g l = record {
  way : IsUnderWay l.fn.setting (g.R.Source.seen l.fn.input).left (rest l.lines (g.R.Source.seen l.input))
      (g.W.Sink.seen l.fn.output) (g.W.Sink.seen l.output) l.turns.left l.number l.pair;
  reads : Spends (g.R.Source.seen l.fn.input).calls (g.R.Source.seen l.input).calls allowed_turns l.lines.turns.left;
}

abbrev pub decreases-events : goal.decreases-events
decreases-events g l = size l.lines
