use Rattle.lspsync.proofs.Prelude.{refl}
use Rattle.lspsync.proofs.EndLemmas.{ends}
use Rattle.lspsync.proofs.ends.say.Goals as goal

pub returns-in-Some : goal.returns-in-Some
returns-in-Some g c =
    rw c.in-Some.is (ends c.args.status _ _ c.print.result _ _ c.new.result c.new.ensures refl c.print.ensures)
