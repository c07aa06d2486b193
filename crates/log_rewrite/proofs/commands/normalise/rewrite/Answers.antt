use Rattle.log_rewrite.proofs.Prelude.{true, false, List, Record, ports, subst, IsEngineRun, log_engine, RunOutput}
use Rattle.log_session.specs.Run.{flushing}
use Rattle.log_rewrite.proofs.WroteLemmas.{rewritten_kept, wrote_whole}
use Rattle.log_rewrite.proofs.commands.normalise.rewrite.Goals as goal

pub returns-then-rewriting-clause-run : goal.returns-then-rewriting-clause-run
returns-then-rewriting-clause-run g c =
    let before = ports (g.R.Source.seen c.args.ends.now.reader.now) (g.W.Sink.seen c.args.ends.now.writer.now) in
    let after = ports (g.R.Source.seen c.write_whole.new.ends.reader.now)
    (g.W.Sink.seen c.write_whole.new.ends.writer.now) in
    subst (λ (f : List Record → RunOutput). IsEngineRun (flushing c.args.rewriting.live (log_engine c.args.settings f))
    c.args.max_turns before after c.write_whole.result)
    (rewritten_kept c.args.settings c.args.rewriting true c.if-rewriting.true)
    (rw c.selection_if-selection.ensures at c.write_whole.ensures.run)

pub returns-then-rewriting-clause-whole_log : goal.returns-then-rewriting-clause-whole_log
returns-then-rewriting-clause-whole_log g c whole all =
    let none = rw all at c.selection_if-selection.ensures in
    wrote_whole c.args.settings c.write_whole.ensures.in_range c.write_whole.result
    (rw none at c.write_whole.ensures.run.all_records)

pub returns-clause-run : goal.returns-clause-run
returns-clause-run g c =
    let before = ports (g.R.Source.seen c.args.ends.now.reader.now) (g.W.Sink.seen c.args.ends.now.writer.now) in
    let after = ports (g.R.Source.seen c.normalise_over.new.ends.reader.now)
    (g.W.Sink.seen c.normalise_over.new.ends.writer.now) in
    subst (λ (f : List Record → RunOutput). IsEngineRun (flushing c.args.rewriting.live (log_engine c.args.settings f))
    c.args.max_turns before after c.normalise_over.result)
    (rewritten_kept c.args.settings c.args.rewriting false c.if-rewriting.false)
    (rw c.selection_if-selection.ensures at c.normalise_over.ensures.run)
