use Rattle.log_report.proofs.Prelude.{◌≡◌, ◌≤◌, ◌++◌, ◌-◌, all_but, drop, habits_of, length, take}
use Rattle.log_report.proofs.habits.index_of.Given as goal

abbrev pub invariant-documents : goal.invariant-documents
invariant-documents l = record {
  within : l.next ≤ length l.documents;
  others : all_but l.uri l.documents ≡ take l.next l.documents ++ all_but l.uri (drop l.next l.documents);
  habits : habits_of l.uri l.documents ≡ habits_of l.uri (drop l.next l.documents);
}

abbrev pub decreases-documents : goal.decreases-documents
decreases-documents l = length l.documents - l.next
