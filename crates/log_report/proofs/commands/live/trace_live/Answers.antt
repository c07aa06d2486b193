use Rattle.log_report.proofs.Prelude.{false, refl, opened, log_config, lines, nothing_known, tracing}
use Rattle.log_session.proofs.Runs.RunReportLemmas.{run_of}
use Rattle.log_report.proofs.commands.live.trace_live.Goals as goal

pub returns-clause-run : goal.returns-clause-run
returns-clause-run g c =
    run_of (lines (tracing c.args.details)) nothing_known (opened (log_config c.args.settings)) false (λ _ _. refl)
    (rw (
      c.new-pipeline.ensures.selection,
      c.new-pipeline.ensures.printer,
      c.rules-rules.ensures,
      c.new-trace.ensures.session,
      c.new-trace.ensures.known,
      c.new-trace.ensures.details,
    ) at c.run_on.ensures.run)
