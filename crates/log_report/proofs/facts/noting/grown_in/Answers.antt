use Rattle.log_report.proofs.Prelude.{arith, common_steps}
use Rattle.std.proofs.lemmas.List.{length-map}
use Rattle.log_report.proofs.facts.noting.grown_in.Goals as goal

pub returns : goal.returns
returns c = grind (arith, common_steps, length-map)
