use Rattle.log_report.proofs.Prelude.{◌≡◌, ◌≤◌, ◌++◌, ◌-◌, drop, length, take, last_record, without}
use Rattle.log_report.proofs.mentions.index_of.Given as goal

abbrev pub invariant-mentions : goal.invariant-mentions
invariant-mentions l = record {
  within : l.next ≤ length l.mentions;
  others : without l.uri l.mentions ≡ take l.next l.mentions ++ without l.uri (drop l.next l.mentions);
  last : last_record l.uri l.mentions ≡ last_record l.uri (drop l.next l.mentions);
}

abbrev pub decreases-mentions : goal.decreases-mentions
decreases-mentions l = length l.mentions - l.next
