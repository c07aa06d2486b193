use Rattle.log_report.proofs.Prelude.{chars, units_in}
use Rattle.log_report.proofs.Reports.NoteLemmas.{taken_is}
use Rattle.log_report.proofs.notes.changes.taken_as.Goals as goal

pub returns-in-Ok : goal.returns-in-Ok
returns-in-Ok c =
    taken_is (units_in c.args.encoding) (chars c.args.text.now) c.args.position c.in-Ok.offset c.position.result
    (rw c.in-Ok.is at c.resolve.ensures.value) c.position.ensures.exact
