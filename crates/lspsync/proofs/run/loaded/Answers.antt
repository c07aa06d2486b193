use Rattle.lspsync.proofs.Prelude.{refl}
use Rattle.lspsync.proofs.run.loaded.Goals as goal

pub returns-in-Ok : goal.returns-in-Ok
returns-in-Ok g c = rw c.in-Some.is ((c.in-Ok.text, rw c.deref.ensures at c.in-Ok.ensures, c.with_text.ensures), refl)
