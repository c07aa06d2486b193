use Rattle.lspsync.proofs.Prelude.{map, into_iter_items, Streams, streams, AreDone, Ending}
use Rattle.lspsync.specs.Run.{IsProgramRun}
use Rattle.lspsync.proofs.run.run.Given as goal

-- Who does the tasks that are left has run the program.
abbrev pub invariant-loop-task : goal.invariant-loop-task
invariant-loop-task g l = record {
  going : (goal.iterator-loop-task g).can_next l.task-iterator;
  finite : (goal.iterator-loop-task g).is_finite l.task-iterator;
  rest : (after : Streams) (ending : Ending)
      → AreDone (g.F.Folder.bytes l.folder) l.is_headed l.ending (into_iter_items l.task-iterator)
      (streams (g.R.Source.seen l.input) (g.W.Sink.seen l.output) (g.E.Sink.seen l.errors)) after ending
      → IsProgramRun (g.F.Folder.bytes l.folder) (map (λ word. word.now) l.fn.words)
      (streams (g.R.Source.seen l.fn.input) (g.W.Sink.seen l.fn.output) (g.E.Sink.seen l.fn.errors)) after ending;
}
