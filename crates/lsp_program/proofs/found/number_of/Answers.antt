use Rattle.std.specs.Str.Parse.{ParsesUnsigned, ExplainsUnsignedError, HasUnsignedDigitsIfOk}
use Rattle.lsp_program.proofs.NumberLemmas.{number_given, number_read}
use Rattle.lsp_program.proofs.found.number_of.Goals as goal

pub returns-clause-some : goal.returns-clause-some
returns-clause-some c =
    number_given (λ bs r. ParsesUnsigned 64 10 bs r × ExplainsUnsignedError 10 bs r × HasUnsignedDigitsIfOk bs r)
    c.args.options.now c.args.id.now c.get_one.result
    c.get_one.ensures.none c.get_one.ensures.value (λ t n gives. (gives.0.0, gives.0.1))

pub returns-clause-none : goal.returns-clause-none
returns-clause-none c =
    number_read (λ bs r. ParsesUnsigned 64 10 bs r × ExplainsUnsignedError 10 bs r × HasUnsignedDigitsIfOk bs r)
    c.args.options.now c.args.id.now c.get_one.result
    c.get_one.ensures.value (λ t e gives. gives.0)
