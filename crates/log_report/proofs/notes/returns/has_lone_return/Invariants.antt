use Rattle.log_report.proofs.Prelude.{◌≡◌, ◌≤◌, ◌-◌, drop, length, false, has_lone_return}
use Rattle.log_report.proofs.notes.returns.has_lone_return.Given as goal

abbrev pub invariant-bytes : goal.invariant-bytes
invariant-bytes l = record {
  within : l.next ≤ length l.bytes;
  rest : has_lone_return false l.bytes ≡ has_lone_return l.after (drop l.next l.bytes);
}

abbrev pub decreases-bytes : goal.decreases-bytes
decreases-bytes l = length l.bytes - l.next
