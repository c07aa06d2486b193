use Rattle.log_report.proofs.Prelude.{false, refl, opened, checking, log_config}
use Rattle.log_session.proofs.Runs.RunReportLemmas.{run_of}
use Rattle.log_report.proofs.commands.live.check_live.Goals as goal

pub returns-clause-run : goal.returns-clause-run
returns-clause-run g c =
    run_of checking tt (opened (log_config c.args.settings)) false (λ _ _. refl)
    (rw (
      c.new-pipeline.ensures.selection,
      c.new-pipeline.ensures.printer,
      c.rules-rules.ensures,
      c.new-check.ensures,
    ) at c.run_on.ensures.run)
