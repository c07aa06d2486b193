use Rattle.log_report.proofs.Prelude.{◌++◌, drop, notes_words}
use Rattle.log_report.proofs.Reports.NoteLemmas.{Writing}
use Rattle.log_report.proofs.printer.noted.push_notes.Given as goal

abbrev pub invariant-loop-note : goal.invariant-loop-note
invariant-loop-note l = Writing (l.fn.buffer.items ++ notes_words l.between l.notes) l.between
    (drop l.note-index l.rest) l.buffer.items
