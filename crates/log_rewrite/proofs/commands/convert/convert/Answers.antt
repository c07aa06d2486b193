use Rattle.log_rewrite.proofs.Prelude.{false, refl, opened, log_config, converting}
use Rattle.log_session.proofs.Runs.RunReportLemmas.{run_of}
use Rattle.log_rewrite.proofs.WroteLemmas.{wrote_converted}
use Rattle.log_rewrite.proofs.commands.convert.convert.Goals as goal

pub returns : goal.returns
returns g c =
    let run = run_of converting tt (opened (log_config c.args.settings)) false (λ _ _. refl)
    (rw (c.rules-rules.ensures, c.session.ensures.value) at c.run.ensures.run) in
    record {
      run = run;
      converted = wrote_converted c.args.settings c.session.ensures.in_range c.run.result run.all_records;
    }
