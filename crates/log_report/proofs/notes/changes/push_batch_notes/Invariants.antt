use Rattle.log_report.proofs.Prelude.{◌++◌, drop, map, content_change, notes_from, terms_view}
use Rattle.log_report.proofs.Reports.NoteLemmas.{Noting}
use Rattle.log_report.proofs.notes.changes.push_batch_notes.Given as goal

abbrev pub invariant-loop-index : goal.invariant-loop-index
invariant-loop-index l =
    Noting (terms_view l.terms) (l.fn.notes.items ++ notes_from (terms_view l.terms) 0 l.text
    (map content_change l.changes))
    l.index (drop l.index l.changes) l.left l.notes.items
