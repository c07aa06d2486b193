use Rattle.log_report.proofs.Prelude.{◌≡◌, ◌≤◌, ◌+◌, ◌-◌, drop, length, differing_line}
use Rattle.log_report.proofs.notes.saved.differing_line.Given as goal

abbrev pub invariant-bytes : goal.invariant-bytes
invariant-bytes l = record {
  within : l.next ≤ length l.text;
  few : l.line ≤ l.next + 1;
  rest : differing_line 1 l.text l.other ≡ differing_line l.line (drop l.next l.text) (drop l.next l.other);
}

abbrev pub decreases-bytes : goal.decreases-bytes
decreases-bytes l = length l.text - l.next
