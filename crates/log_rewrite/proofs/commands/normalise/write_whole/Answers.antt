use Rattle.log_rewrite.proofs.Prelude.{false, refl, log_config, opened}
use Rattle.log_rewrite.specs.Normalise.{writing_whole}
use Rattle.log_session.proofs.Runs.PipedLemmas.{run_of_piped}
use Rattle.log_rewrite.proofs.commands.normalise.write_whole.Goals as goal

pub returns-clause-run : goal.returns-clause-run
returns-clause-run g c =
    run_of_piped writing_whole tt (opened (log_config c.args.settings)) c.args.selection false (λ _ _. refl)
    (rw (c.rules-rules.ensures, c.session-session.ensures.value) at c.run_over.ensures.run)
