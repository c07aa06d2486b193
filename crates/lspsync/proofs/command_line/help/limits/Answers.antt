use Rattle.lspsync.proofs.Prelude.{ap, map}
use Rattle.std.specs.Fmt.{digits}
use Rattle.lsp_program.specs.Arguments.{rule_by}
use Rattle.lspsync.proofs.command_line.help.limits.Goals as goal

-- The digits of the defaults are computed.
pub returns : goal.returns
unfolding digits
returns c = λ names. ap (map (rule_by names)) c.as_slice.ensures
