use Rattle.lspsync.proofs.Prelude.{arith}
use Rattle.std.proofs.lemmas.Grind.{common_steps}
use Rattle.lspsync.proofs.FrontLemmas.{one_side}
use Rattle.lspsync.proofs.reasons.has_one_side.Goals as goal

pub returns-in-Ok : goal.returns-in-Ok
returns-in-Ok g c = λ differs.
    one_side _ _ c.read_exact.new.buf (grind (arith, common_steps, c.read_exact.auto.buf)) c.in-Ok.ensures.bytes
    (grind (arith, common_steps, c.is_line.ensures, differs))
