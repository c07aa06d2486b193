use Rattle.log_report.proofs.Prelude.{false, refl, opened, log_config, explaining, lines, nothing_known}
use Rattle.log_session.proofs.Runs.RunReportLemmas.{run_of}
use Rattle.log_report.proofs.commands.explain.explain.Goals as goal

pub returns : goal.returns
returns g c = record {
  run = run_of (lines (explaining c.args.listing)) nothing_known (opened (log_config c.args.settings)) false
      (λ _ _. refl)
      (rw (
        c.rules-rules.ensures,
        c.new-explain.ensures.session,
        c.new-explain.ensures.known,
        c.new-explain.ensures.listing,
      ) at c.run.ensures.run);
}
