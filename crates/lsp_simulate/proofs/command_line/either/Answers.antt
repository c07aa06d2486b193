use Rattle.lsp_simulate.proofs.OptionLemmas.{either_given, either_read}
use Rattle.lsp_simulate.proofs.command_line.either.Goals as goal

pub returns-clause-some : goal.returns-clause-some
returns-clause-some c =
    either_given c.args.options.now c.args.first.now c.args.second.now c.number_of.result c.number_of-2.result
    c.or.result c.or.ensures c.number_of.ensures.some c.number_of.ensures.none c.number_of-2.ensures.some

pub returns-clause-none : goal.returns-clause-none
returns-clause-none c =
    either_read c.args.options.now c.args.first.now c.args.second.now c.number_of.result c.number_of-2.result
    c.or.result c.or.ensures c.number_of.ensures.none c.number_of-2.ensures.none
