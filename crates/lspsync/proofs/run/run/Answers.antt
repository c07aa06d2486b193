use Rattle.lspsync.proofs.Prelude.{◌≡◌, ℕ, List, [], arith, length, rules, subst, nat_lt, into_iter_items, nil_from_length, Streams, streams, AreDone, nothing_yet, Task, Ending}
use Rattle.lspsync.proofs.DoneLemmas.{none_left, one_more, stopped}
use Rattle.lspsync.proofs.run.run.Goals as goal

pub loop-task-init : goal.loop-task-init
loop-task-init g c =
    let known = g.F.Folder.bytes c.args.folder.now in
    let is_headed = nat_lt 1 c.len-is_headed.result in
    let start : Streams = streams (g.R.Source.seen c.args.input.now) (g.W.Sink.seen c.args.output.now)
    (g.E.Sink.seen c.args.errors.now) in
    let items = into_iter_items c.into_iter-task-iterator.result in
    let are : items ≡ c.in-Ok-Some.tasks.items = search rules in
    let count : c.len-is_headed.result ≡ length c.in-Ok-Some.tasks.items = search rules in
    record {
      going = tt;
      finite = tt;
      rest = λ after ending more. record {
        read = c.parse.result;
        words_are = c.parse.ensures;
        done = rw (c.in-Ok-Some.is, c.in-Ok-Some.field-0-is)
            (subst (λ (n : ℕ). AreDone known (nat_lt 1 n) nothing_yet c.in-Ok-Some.tasks.items start after ending) count
            (subst (λ (tasks : List Task). AreDone known is_headed nothing_yet tasks start after ending) are
            (subst (λ (so_far : Ending). AreDone known is_headed so_far items start after ending) c.new-ending.ensures
            more)));
      };
    }

pub loop-task-preserved : goal.loop-task-preserved
loop-task-preserved g c = record {
  going = tt;
  finite = tt;
  rest = λ after ending more.
      c.loop-task.invariant.rest after ending
      (one_more (g.F.Folder.bytes c.args.folder.now) (nat_lt 1 c.len-is_headed.result) c.loop-task.ending
      c.do_task-done.result c.both-ending.result ending (into_iter_items c.loop-task.task-iterator)
      (into_iter_items c.next.new.self) c.in-Some.task _ _ after c.in-Some.ensures.steps.0 c.do_task-done.ensures
      c.if-output_failed.false c.both-ending.ensures more);
}

pub returns-then-output_failed : goal.returns-then-output_failed
returns-then-output_failed g c =
    let end : Streams = streams (g.R.Source.seen c.do_task-done.new.input) (g.W.Sink.seen c.do_task-done.new.output)
    (g.E.Sink.seen c.do_task-done.new.errors) in
    c.loop-task.invariant.rest end c.both-ending.result
    (stopped (g.F.Folder.bytes c.args.folder.now) (nat_lt 1 c.len-is_headed.result) c.loop-task.ending
    c.do_task-done.result c.both-ending.result (into_iter_items c.loop-task.task-iterator)
    (into_iter_items c.next.new.self) c.in-Some.task _ end c.in-Some.ensures.steps.0 c.do_task-done.ensures
    c.if-output_failed.true c.both-ending.ensures)

pub returns : goal.returns
returns g c =
    let end : Streams = streams (g.R.Source.seen c.loop-task.input) (g.W.Sink.seen c.loop-task.output)
    (g.E.Sink.seen c.loop-task.errors) in
    let none : into_iter_items c.loop-task.task-iterator ≡ [] =
    nil_from_length _ (omega (arith, c.loop-task.task-iterator.rest.ok.0, c.in-None.ensures.steps.0)) in
    c.loop-task.invariant.rest end c.loop-task.ending
    (none_left (g.F.Folder.bytes c.args.folder.now) (nat_lt 1 c.len-is_headed.result) c.loop-task.ending
    (into_iter_items c.loop-task.task-iterator) end none)
