use Rattle.line_diff.proofs.Prelude.{refl, row_numbers}
use Rattle.std.proofs.Math.Nat.{add-zero}
use Rattle.line_diff.proofs.NumberLemmas.{number_after}
use Rattle.line_diff.proofs.makers.number_at.Goals as goal

pub returns : goal.returns
returns c =
    rw (
      c.unwrap_or.ensures,
      c.first.ensures,
      c.after.ensures,
      (number_after c.args.index 0 (row_numbers c.args.row)),
      add-zero,
    ) refl
