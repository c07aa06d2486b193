use Rattle.log_report.proofs.Prelude.{incoming_view}
use Rattle.log_report.proofs.Reports.MemberLemmas.{first_is, on_ok}
use Rattle.log_report.proofs.printer.trace.first.push_first.Goals as goal

pub returns : goal.returns
returns c =
    on_ok c.push_text-2.result
    (first_is c.args.number c.args.head (incoming_view c.args.incoming.now) c.args.buffer.now.items _ _ _ _
    c.in_ok-push_head.ensures (rw c.method_of.ensures at c.in_ok-push_text.ensures)
    (rw c.id_of.ensures at c.in_ok-push_id.ensures))
    (rw c.uri_of.ensures at c.push_text-2.ensures)
