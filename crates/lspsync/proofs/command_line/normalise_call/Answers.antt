use Rattle.lspsync.proofs.Prelude.{sym, ◌∙◌}
use Rattle.lspsync.proofs.OptionLemmas.{not_contrary}
use Rattle.lspsync.proofs.command_line.normalise_call.Goals as goal

pub returns-then-is_contrary-clause-none : goal.returns-then-is_contrary-clause-none
returns-then-is_contrary-clause-none c = λ asked named.
    not_contrary c.args.options.now asked (sym c.is_contrary.ensures ∙ c.if-is_contrary.true) named
