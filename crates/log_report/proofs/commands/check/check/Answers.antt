use Rattle.log_report.proofs.Prelude.{false, refl, opened, checking, log_config}
use Rattle.log_session.proofs.Runs.RunReportLemmas.{run_of}
use Rattle.log_report.proofs.commands.check.check.Goals as goal

pub returns : goal.returns
returns g c = record {
  run = run_of checking tt (opened (log_config c.args.settings)) false (λ _ _. refl)
      (rw (c.rules-rules.ensures, c.new-check.ensures) at c.run.ensures.run);
}
