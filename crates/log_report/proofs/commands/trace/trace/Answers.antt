use Rattle.log_report.proofs.Prelude.{false, refl, opened, log_config, lines, nothing_known, tracing}
use Rattle.log_session.proofs.Runs.RunReportLemmas.{run_of}
use Rattle.log_report.proofs.commands.trace.trace.Goals as goal

pub returns : goal.returns
returns g c = record {
  run = run_of (lines (tracing c.args.details)) nothing_known (opened (log_config c.args.settings)) false (λ _ _. refl)
      (rw (
        c.rules-rules.ensures,
        c.new-trace.ensures.session,
        c.new-trace.ensures.known,
        c.new-trace.ensures.details,
      ) at c.run.ensures.run);
}
