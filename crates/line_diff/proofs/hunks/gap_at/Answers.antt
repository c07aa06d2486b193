use Rattle.line_diff.proofs.Prelude.{rules}
use Rattle.line_diff.specs.Hunks.{gap_at}
use Rattle.line_diff.proofs.hunks.gap_at.Goals as goal

pub returns-in-0-clause-value : goal.returns-in-0-clause-value
unfolding gap_at
returns-in-0-clause-value c = rw (← c.best_gap-gap.ensures.value, c.in-0.is) (search rules)

pub returns-in-1-clause-value : goal.returns-in-1-clause-value
unfolding gap_at
returns-in-1-clause-value c =
    rw (c.better.ensures, ← c.best_gap-gap.ensures.value, ← c.best_gap.ensures.value, c.in-1.is) (search rules)

pub returns-in_default-clause-value : goal.returns-in_default-clause-value
unfolding gap_at
returns-in_default-clause-value c = rw (← c.best_gap-gap.ensures.value) (search rules)
