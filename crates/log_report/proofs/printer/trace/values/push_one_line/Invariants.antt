use Rattle.log_report.proofs.Prelude.{◌≡◌, ◌≤◌, ◌++◌, ◌-◌, drop, length, one_line}
use Rattle.log_report.proofs.printer.trace.values.push_one_line.Given as goal

abbrev pub invariant-bytes : goal.invariant-bytes
invariant-bytes l = record {
  within : l.next ≤ length l.bytes;
  written : l.fn.buffer.items ++ one_line l.bytes ≡ l.buffer.items ++ one_line (drop l.next l.bytes);
}

abbrev pub decreases-bytes : goal.decreases-bytes
decreases-bytes l = length l.bytes - l.next
