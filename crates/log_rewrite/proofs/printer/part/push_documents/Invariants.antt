use Rattle.log_rewrite.proofs.Prelude.{◌≡◌, ◌++◌, ◌-◌, length, report_from}
use Rattle.log_rewrite.proofs.printer.part.push_documents.Given as goal

abbrev pub invariant-documents : goal.invariant-documents
invariant-documents l = record {
  written : l.fn.buffer.items ++ report_from 0 l.documents.table ≡ l.buffer.items ++ report_from l.next
      l.documents.table;
}

abbrev pub decreases-documents : goal.decreases-documents
decreases-documents l = length l.documents.table - l.next
