use Rattle.log_report.proofs.Prelude.{drop, map, units_in, content_change_view, splices_from}
use Rattle.log_report.proofs.Reports.CompareLemmas.{Splicing}
use Rattle.log_report.proofs.printer.compare.splices.splices_of.Given as goal

abbrev pub invariant-loop-change : goal.invariant-loop-change
invariant-loop-change l =
    Splicing (units_in l.encoding) (splices_from (units_in l.encoding) l.text (map content_change_view l.changes))
    (drop l.change-index l.changes) l.left l.splices.items
