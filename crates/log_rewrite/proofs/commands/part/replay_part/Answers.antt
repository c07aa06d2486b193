use Rattle.log_rewrite.proofs.Prelude.{refl, false, log_config, none_found, part_data, replaying_part, opened}
use Rattle.log_session.proofs.Runs.RunReportLemmas.{run_of}
use Rattle.log_rewrite.proofs.commands.part.replay_part.Goals as goal

pub returns : goal.returns
returns g c = record {
  run = run_of (replaying_part (part_data c.args.part)) none_found (opened (log_config c.args.settings)) false
      (λ _ _. refl)
      (rw (c.rules-rules.ensures, c.session.ensures.value, c.none.ensures) at c.run.ensures.run);
}
