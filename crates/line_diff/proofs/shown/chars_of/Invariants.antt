use Rattle.line_diff.proofs.Prelude.{◌≡◌}
use Rattle.line_diff.proofs.shown.chars_of.Given as goal

abbrev pub invariant-loop-character : goal.invariant-loop-character
invariant-loop-character l = l.characters.items ≡ l.yielded
