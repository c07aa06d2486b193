use Rattle.log_session.proofs.Prelude.{refl}
use Rattle.log_session.proofs.Records.TakenLemmas.{change_taken, other_taken}
use Rattle.log_session.proofs.session.Session.take.Goals as goal

pub returns-in_ok-verdict-in-Ok : goal.returns-in_ok-verdict-in-Ok
returns-in_ok-verdict-in-Ok g c = change_taken c.in-Ok.ensures c.in_ok-verdict-in-Ok.ensures refl refl

pub returns-in_ok-take_other-in-Err : goal.returns-in_ok-take_other-in-Err
returns-in_ok-take_other-in-Err g c =
    let t = c.in_ok-take_other-in-Err in
    other_taken c.in-Err.ensures.1 c.in-Err.ensures.0 t.ensures.verdict t.ensures.session t.ensures.change
    t.ensures.ranged refl
