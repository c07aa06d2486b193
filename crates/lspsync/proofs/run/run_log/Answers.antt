use Rattle.lspsync.proofs.Prelude.{inl}
use Rattle.lspsync.proofs.run.run_log.Goals as goal

pub returns-in-Ok : goal.returns-in-Ok
returns-in-Ok g c = inl (record {
  left = _;
  begins = c.in-Ok.ensures;
  file = _;
  answer = c.perform-answer.result.answer;
  second = c.perform-answer.result.second;
  performed =
      rw (
        c.new-log.ensures.inner,
        c.new.ensures,
        c.new-log.ensures.failed,
        c.new-log.ensures.calls,
        c.new-log.ensures.ended,
      ) at c.perform-answer.ensures.performed;
  wanted = c.wanted_by-wanted.result;
  names = c.wanted_by-wanted.ensures;
  first = c.end_file-first.result.ending;
  errors = g.E.Sink.seen c.end_file-first.new.errors;
  ends = c.end_file-first.ensures;
  lost = c.end_after.ensures;
})
