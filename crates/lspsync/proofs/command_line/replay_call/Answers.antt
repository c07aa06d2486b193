use Rattle.lspsync.proofs.OptionLemmas.{named_part}
use Rattle.lspsync.proofs.command_line.replay_call.Goals as goal

pub returns-clause-some : goal.returns-clause-some
returns-clause-some c =
    named_part c.args.options.now c.in-Some.settings c.in_ok-part.part c.replaying.result c.in-Some.ensures.some
    c.in_ok-part.ensures c.replaying.ensures.whole c.replaying.ensures.part
