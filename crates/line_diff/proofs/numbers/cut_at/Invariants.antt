use Rattle.line_diff.proofs.Prelude.{◌≡◌, ◌≤◌, ◌++◌, length}
use Rattle.std.specs.Prelude.{reverse}
use Rattle.line_diff.proofs.numbers.cut_at.Given as goal

abbrev pub invariant-back : goal.invariant-back
invariant-back l = reverse l.before ++ l.after ≡ reverse l.fn.before ++ l.fn.after

abbrev pub decreases-back : goal.decreases-back
decreases-back l = length l.before

abbrev pub invariant-on : goal.invariant-on
invariant-on l = record {
  whole : reverse l.before ++ l.after ≡ reverse l.fn.before ++ l.fn.after;
  most : length l.before ≤ l.place;
}

abbrev pub decreases-on : goal.decreases-on
decreases-on l = length l.after
