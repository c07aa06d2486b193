use Rattle.log_rewrite.proofs.Prelude.{true, false, List, Record, RanOver, RunOutput, as_log, state_of}
use Rattle.log_rewrite.proofs.WroteLemmas.{by_setting, wrote_normal, wrote_squashed}
use Rattle.log_rewrite.proofs.commands.normalise.normalise.Goals as goal

pub returns : goal.returns
returns g c =
    let call = c.normalise_selected in
    let settings = c.args.settings in
    let ran = by_setting settings (λ (f : List Record → RunOutput). RanOver (as_log settings) f
    (state_of (g.R.Source.seen c.args.reader.now).ended (g.R.Source.seen call.new.reader).ended false)
    (g.R.Source.seen c.args.reader.now).left (g.R.Source.seen call.new.reader).left
    (g.W.Sink.seen c.args.writer.now).written (g.W.Sink.seen call.new.writer).written call.result) in
    record {
      run = call.ensures.run;
      canonical_log = λ each. wrote_normal settings call.ensures.in_range call.result
          (ran false each call.ensures.run.all_records);
      squashed = λ squash. wrote_squashed settings call.ensures.in_range call.result
          (ran true squash call.ensures.run.all_records);
    }
