use Rattle.line_diff.proofs.Prelude.{◌≡◌, length}
use Rattle.line_diff.specs.Names.{bare}
use Rattle.line_diff.proofs.names.bare.Given as goal

abbrev pub invariant-dots : goal.invariant-dots
invariant-dots l = bare l.rest ≡ bare l.name

abbrev pub decreases-dots : goal.decreases-dots
decreases-dots l = length l.rest
