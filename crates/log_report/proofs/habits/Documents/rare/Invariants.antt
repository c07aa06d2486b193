use Rattle.log_report.proofs.Prelude.{◌≡◌, flat_map, habits_at, option_map, take, rare_note}
use Rattle.log_report.proofs.habits.Documents.rare.Given as goal

abbrev pub invariant-loop-note : goal.invariant-loop-note
invariant-loop-note l = l.rare.items
    ≡ flat_map (rare_note (habits_at (option_map (λ uri. uri.now) l.uri) l.self.newest.items))
    (take l.note-index l.notes)
