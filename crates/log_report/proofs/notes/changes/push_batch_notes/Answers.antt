use Rattle.log_report.proofs.Prelude.{arith, terms_view}
use Rattle.log_report.proofs.Reports.NoteLemmas.{one_noted}
use Rattle.log_report.proofs.notes.changes.push_batch_notes.Goals as goal

pub returns-in-len1 : goal.returns-in-len1
returns-in-len1 c =
    rw (one_noted (terms_view c.args.terms.now) c.args.text.now c.args.changes.now c.change-item.result
    (omega (arith, c.in-len1.len_at_least, c.in-len1.len_below)) c.change-item.is)
    c.push_change_notes.ensures
