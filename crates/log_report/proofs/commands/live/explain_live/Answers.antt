use Rattle.log_report.proofs.Prelude.{false, refl, opened, log_config, explaining, lines, nothing_known}
use Rattle.log_session.proofs.Runs.RunReportLemmas.{run_of}
use Rattle.log_report.proofs.commands.live.explain_live.Goals as goal

pub returns-clause-run : goal.returns-clause-run
returns-clause-run g c =
    run_of (lines (explaining c.args.listing)) nothing_known (opened (log_config c.args.settings)) false (λ _ _. refl)
    (rw (
      c.new-pipeline.ensures.selection,
      c.new-pipeline.ensures.printer,
      c.rules-rules.ensures,
      c.new-explain.ensures.session,
      c.new-explain.ensures.known,
      c.new-explain.ensures.listing,
    ) at c.run_on.ensures.run)
