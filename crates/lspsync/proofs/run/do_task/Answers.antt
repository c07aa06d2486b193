use Rattle.lspsync.proofs.Prelude.{inl, refl}
use Rattle.lspsync.proofs.run.do_task.Goals as goal

pub returns-in-Ok-Some : goal.returns-in-Ok-Some
returns-in-Ok-Some g c = record {
  errors = g.E.Sink.seen c.head-headed.new.errors;
  heading = c.head-headed.result;
  headed = c.head-headed.ensures;
  one = c.run_file.result;
  done = inl (
    c.in-Ok-Some.call,
    c.in-Ok-Some.ensures.0,
    rw c.in-Ok-Some.is-1 (refl, rw c.as_str.ensures.value at (rw c.in-Ok-Some.ensures.1 at c.run_file.ensures)),
  );
  ends = c.after.ensures;
}
