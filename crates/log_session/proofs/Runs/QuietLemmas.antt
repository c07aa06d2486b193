-- `replay` gives nothing before the end of the input.
use Rattle.log_session.proofs.Prelude.{List, [], arith, refl, ◌∷◌, ◌≡◌, common_steps, Record, replaying, Session, judge, run_output_in}

pub quiet : (s : Session) (rs : List Record) → (run_output_in replaying s rs).out ≡ []
quiet s [] = refl
quiet s (r ∷ rs) = grind (arith, common_steps, (quiet (judge s r).session rs))
