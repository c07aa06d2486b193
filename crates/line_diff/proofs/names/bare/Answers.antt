use Rattle.line_diff.proofs.Prelude.{arith, common_steps}
use Rattle.line_diff.proofs.NameLemmas.{bare_more, bare_none}
use Rattle.line_diff.proofs.names.bare.Goals as goal

pub dots-preserved : goal.dots-preserved
dots-preserved c = grind (arith, common_steps, bare_more)

pub returns : goal.returns
returns c = grind (arith, common_steps, bare_none)
