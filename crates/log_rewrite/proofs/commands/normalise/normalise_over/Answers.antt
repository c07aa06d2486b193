use Rattle.log_rewrite.proofs.Prelude.{false, refl, None, List, Record, ports, log_config, normalising, IsEngineRun, log_engine, RunOutput, opened, piped, squash_view}
use Rattle.log_session.specs.Run.{flushing}
use Rattle.log_rewrite.proofs.WroteLemmas.{as_each, as_steps}
use Rattle.log_session.proofs.Runs.PipedLemmas.{run_of_piped}
use Rattle.log_rewrite.proofs.commands.normalise.normalise_over.Goals as goal

pub returns-then-settings-clause-run : goal.returns-then-settings-clause-run
returns-then-settings-clause-run g c =
    let before = ports (g.R.Source.seen c.args.ends.now.reader.now) (g.W.Sink.seen c.args.ends.now.writer.now) in
    let after = ports (g.R.Source.seen c.run_over.new.ends.reader.now)
    (g.W.Sink.seen c.run_over.new.ends.writer.now) in
    let s = opened (log_config c.args.settings) in
    let printer = rw c.session-session.ensures.value at c.new-squashing.ensures in
    as_steps c.args.settings
    (λ (f : List Record → RunOutput). IsEngineRun (flushing c.args.flushes
    (log_engine c.args.settings (piped c.args.selection f s))) c.args.max_turns before after c.run_over.result)
    c.if-settings.true
    (run_of_piped squash_view None s c.args.selection false (λ _ _. refl)
    (rw (c.rules-rules.ensures, printer) at c.run_over.ensures.run))

pub returns-clause-run : goal.returns-clause-run
returns-clause-run g c =
    let before = ports (g.R.Source.seen c.args.ends.now.reader.now) (g.W.Sink.seen c.args.ends.now.writer.now) in
    let after = ports (g.R.Source.seen c.run_over-2.new.ends.reader.now)
    (g.W.Sink.seen c.run_over-2.new.ends.writer.now) in
    let s = opened (log_config c.args.settings) in
    as_each c.args.settings
    (λ (f : List Record → RunOutput). IsEngineRun (flushing c.args.flushes
    (log_engine c.args.settings (piped c.args.selection f s))) c.args.max_turns before after c.run_over-2.result)
    c.if-settings.false
    (run_of_piped normalising tt s c.args.selection false (λ _ _. refl)
    (rw (c.rules-rules.ensures, c.session-session.ensures.value) at c.run_over-2.ensures.run))
