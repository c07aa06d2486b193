use Rattle.line_diff.proofs.Prelude.{◌≡◌, ◌≤◌, ◌++◌, ◌-◌, drop, false, length}
use Rattle.line_diff.specs.Alike.{with_feeds}
use Rattle.line_diff.proofs.alike.with_feeds.Given as goal

abbrev pub invariant-bytes : goal.invariant-bytes
invariant-bytes l = record {
  within : l.next ≤ length l.text;
  copied : l.copy.items ++ with_feeds l.after (drop l.next l.text) ≡ with_feeds false l.text;
}

abbrev pub decreases-bytes : goal.decreases-bytes
decreases-bytes l = length l.text - l.next
