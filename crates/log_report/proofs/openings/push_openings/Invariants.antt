use Rattle.log_report.proofs.Prelude.{◌≡◌, ◌++◌, flat_map, take, opening_words}
use Rattle.log_report.proofs.openings.push_openings.Given as goal

abbrev pub invariant-loop-document : goal.invariant-loop-document
invariant-loop-document l = l.buffer.items
    ≡ l.fn.buffer.items ++ flat_map opening_words (take l.document-index l.documents)
