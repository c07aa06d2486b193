use Rattle.std.proofs.Common.{◌∙◌, ap}
use Rattle.clap.specs.Words.{rule_of}
use Rattle.clap.specs.declared.builder.arg.Arg.{Arg}
use Rattle.lsp_program.specs.Arguments.{rule_by}
use Rattle.lsp_program.proofs.AddLemmas.{adds_next, adds_none}
use Rattle.lsp_program.proofs.arguments.with_arguments.Goals as goal

pub loop-argument-init : goal.loop-argument-init
loop-argument-init c = adds_none c.args.command

pub loop-argument-preserved : goal.loop-argument-preserved
loop-argument-preserved c =
    adds_next (rule_by c.args.names) c.args.arguments.now c.loop-argument.argument-index _ c.args.command
    c.loop-argument.grown _ c.help-arg.result c.loop-argument-test.true c.loop-argument.invariant
    c.in_ok-grown.ensures (ap (λ (a : Arg). a.global) c.help-arg.ensures ∙ c.without_help.ensures.global)
    (ap rule_of c.help-arg.ensures ∙ c.without_help.ensures.rule)
