use Rattle.log_report.proofs.Prelude.{codes}
use Rattle.log_report.proofs.Reports.MemberLemmas.{one_member}
use Rattle.log_report.proofs.printer.explain.push_see.Goals as goal

pub returns : goal.returns
returns c =
    rw c.in-Some.is
    (one_member c.push_number.result _ c.args.buffer.now.items (codes "; see message ") _
    (rw c.in_ok-extend_from_slice.ensures.items at c.push_number.ensures))
