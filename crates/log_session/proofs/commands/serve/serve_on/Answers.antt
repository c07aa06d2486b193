use Rattle.log_session.proofs.Prelude.{false, refl, opened, serving}
use Rattle.log_session.proofs.Runs.RunReportLemmas.{run_of}
use Rattle.log_session.proofs.commands.serve.serve_on.Goals as goal

pub returns-clause-run : goal.returns-clause-run
returns-clause-run g c =
    run_of serving tt (opened c.args.config) false (λ _ _. refl)
    (rw (c.new-pipeline.ensures.selection, c.new-pipeline.ensures.printer, c.new.ensures) at c.run_on.ensures.run)
