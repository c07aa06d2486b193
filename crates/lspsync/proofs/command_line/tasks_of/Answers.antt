use Rattle.lspsync.proofs.Prelude.{Option, subst, IfSome, IsCallNamed, IsTaskNamed, Call, Task}
use Rattle.std.proofs.lemmas.List.Elements.{All-push}
use Rattle.lspsync.proofs.TaskLemmas.{one_more}
use Rattle.lspsync.proofs.command_line.tasks_of.Goals as goal

pub loop-file-preserved : goal.loop-file-preserved
loop-file-preserved c =
    let named = IsCallNamed c.in-Some.name.now c.in-Some.options.now in
    let task : Task = record { call = c.in-Some-2.call; saved = c.in_ok-saved.saved; file = c.in_ok-file.file } in
    record {
      calls = rw c.in_ok-push.ensures.items
          (All-push (IsTaskNamed c.in-Some.name.now c.in-Some.options.now) c.loop-file.tasks.items task
          c.loop-file.invariant.calls (
            subst (λ (found : Option Call). IfSome found named) c.in-Some-2.is c.in_ok-call.ensures.some,
            c.in_ok-saved.ensures,
          ));
      files = rw c.in_ok-push.ensures.items
          (one_more c.loop-file.tasks.items task c.files_of-file-items.result.now c.loop-file.file-index
          c.loop-file-test.true c.loop-file.invariant.files c.in_ok-file.ensures);
    }
