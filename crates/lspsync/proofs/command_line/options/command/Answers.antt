use Rattle.lspsync.proofs.Prelude.{rules}
use Rattle.lspsync.proofs.ProgramLemmas.{is_command}
use Rattle.lspsync.proofs.command_line.options.command.Goals as goal

pub returns : goal.returns
returns c =
    is_command c.args.page c.args.names c.after_help-command.result _ c.with_arguments-2.result _ (search rules)
    (search rules)
    (c.limits.ensures c.args.names) c.in_ok-command.ensures c.with_arguments-2.ensures
