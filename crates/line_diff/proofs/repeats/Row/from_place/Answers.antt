use Rattle.line_diff.proofs.Prelude.{refl}
use Rattle.line_diff.proofs.NumberLemmas.{twice_after}
use Rattle.line_diff.proofs.repeats.Row.from_place.Goals as goal

pub returns : goal.returns
returns c = rw (c.after-2.ensures, c.after.ensures, twice_after) refl
