use Rattle.lspsync.proofs.run.perform.Goals as goal

pub returns : goal.returns
returns g c = record {
  performed = record {
    result = c.obey-ran.result;
    flushed = c.flush-flushed.result;
    writer = g.W.Sink.seen c.obey-ran.new.output;
    ran = c.obey-ran.ensures;
    kept = c.flush-flushed.ensures.kept;
    flush = c.flush-flushed.ensures.flushed;
    answered = c.answer_with.ensures;
    lost = c.fault_after.ensures;
  };
}
