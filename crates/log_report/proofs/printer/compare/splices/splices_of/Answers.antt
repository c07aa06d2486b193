use Rattle.log_report.proofs.Prelude.{◌++◌, ap, arith, sym, ◌∙◌, units_in, content_change_view}
use Rattle.log_report.specs.Compare.{listed, splice_of}
use Rattle.log_report.proofs.Reports.CompareLemmas.{one_spliced}
use Rattle.log_report.proofs.printer.compare.splices.splices_of.Goals as goal

pub returns-in-len1 : goal.returns-in-len1
returns-in-len1 c =
    c.in_ok-push_splice.ensures
    ∙ (ap (λ xs. xs
    ++ listed (splice_of (units_in c.args.encoding) c.args.text.now (content_change_view c.change-item.result)))
    c.new-splices.ensures.items
    ∙ sym (one_spliced (units_in c.args.encoding) c.args.text.now c.args.changes.now c.change-item.result
    (omega (arith, c.in-len1.len_at_least, c.in-len1.len_below)) c.change-item.is))
