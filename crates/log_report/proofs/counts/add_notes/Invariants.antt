use Rattle.log_report.proofs.Prelude.{◌≡◌, drop, tallied_notes}
use Rattle.log_report.proofs.counts.add_notes.Given as goal

abbrev pub invariant-loop-note : goal.invariant-loop-note
invariant-loop-note l = tallied_notes l.notes l.number l.fn.tallies.items
    ≡ tallied_notes (drop l.note-index l.notes) l.number l.tallies.items
