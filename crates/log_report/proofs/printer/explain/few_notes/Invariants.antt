use Rattle.log_report.proofs.Prelude.{◌≡◌, ◌++◌, drop, few_from, few_notes}
use Rattle.log_report.proofs.printer.explain.few_notes.Given as goal

abbrev pub invariant-loop-note : goal.invariant-loop-note
invariant-loop-note l = l.few.items ++ few_from l.kinds.items (drop l.note-index l.notes) ≡ few_notes l.notes
