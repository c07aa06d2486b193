use Rattle.log_session.proofs.Prelude.{◌≡◌, true, false, log_config, replaying, opened}
use Rattle.log_session.proofs.Runs.RunReportLemmas.{run_of}
use Rattle.log_session.proofs.commands.replay.replay.Goals as goal

pub returns : goal.returns
returns g c = record {
  run = run_of replaying tt (opened (log_config c.args.settings)) true
      (λ never. absurd (let wrong : true ≡ false = never in cc))
      (rw (c.rules-rules.ensures, c.session.ensures.value) at c.run.ensures.run);
}
