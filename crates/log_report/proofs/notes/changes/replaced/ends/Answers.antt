use Rattle.log_report.proofs.Prelude.{chars, units_in, ReversedRange}
use Rattle.lsp_edit.proofs.Composing.EndLemmas.{places_in_order, places_reversed}
use Rattle.log_report.proofs.Reports.NoteLemmas.{no_part}
use Rattle.log_report.proofs.notes.changes.replaced.ends.Goals as goal

-- `lsp_edit`'s function of this name, on a text with its lines.
pub returns-then-start-stop-clause-none : goal.returns-then-start-stop-clause-none
returns-then-start-stop-clause-none c =
    no_part (units_in c.args.encoding) c.args.text.now c.args.range (ReversedRange 0)
    (places_reversed (units_in c.args.encoding) (chars c.args.text.now) c.args.range 0 c.in-Ok.start
    c.in-Ok-resolve.stop c.in-Ok.ensures.value c.in-Ok-resolve.ensures.value c.if-start-stop.true)

pub returns-clause-ends : goal.returns-clause-ends
returns-clause-ends c =
    places_in_order (units_in c.args.encoding) (chars c.args.text.now) c.args.range 0 c.in-Ok.start c.in-Ok-resolve.stop
    c.in-Ok.ensures.value c.in-Ok-resolve.ensures.value c.if-start-stop.false
