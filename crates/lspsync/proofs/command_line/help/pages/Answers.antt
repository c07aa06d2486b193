use Rattle.lspsync.proofs.Prelude.{ap, map}
use Rattle.lspsync.specs.inside.Options.{shape_by}
use Rattle.lspsync.proofs.command_line.help.pages.Goals as goal

pub returns : goal.returns
returns c = λ names. ap (map (shape_by names)) c.as_slice.ensures
