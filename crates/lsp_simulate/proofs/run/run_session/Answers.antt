use Rattle.lsp_simulate.proofs.run.run_session.Goals as goal

pub returns : goal.returns
returns g c = record {
  session = record {
    result = c.simulate-ran.result;
    flushed = c.flush-flushed.result;
    writer = g.W.Sink.seen c.simulate-ran.new.output;
    wrote = c.simulate-ran.ensures;
    kept = c.flush-flushed.ensures.kept;
    flush = c.flush-flushed.ensures.flushed;
    ends = c.end_session.ensures;
  };
}
