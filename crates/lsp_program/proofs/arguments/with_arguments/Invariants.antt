use Rattle.std.proofs.Common.{map, take}
use Rattle.lsp_program.specs.Arguments.{AddsRules, rule_by}
use Rattle.lsp_program.proofs.arguments.with_arguments.Given as goal

abbrev pub invariant-loop-argument : goal.invariant-loop-argument
invariant-loop-argument l =
    AddsRules l.fn.command (map (rule_by l.names) (take l.argument-index l.arguments)) l.grown
