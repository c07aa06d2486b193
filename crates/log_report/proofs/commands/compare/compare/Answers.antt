use Rattle.log_report.proofs.Prelude.{false, refl, log_config, comparing, opened}
use Rattle.log_session.proofs.Runs.RunReportLemmas.{run_of}
use Rattle.log_report.proofs.commands.compare.compare.Goals as goal

pub returns : goal.returns
returns g c = record {
  run = run_of comparing c.args.comparison (opened (log_config c.args.settings)) false (λ _ _. refl)
      (rw (c.rules-rules.ensures, c.session.ensures.value) at c.run.ensures.run);
}
