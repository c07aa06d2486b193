use Rattle.log_report.proofs.Prelude.{codes, decimal, ne_eqb}
use Rattle.log_report.proofs.Reports.MemberLemmas.{seven_words}
use Rattle.log_report.proofs.printer.explain.push_hidden.Goals as goal

pub returns : goal.returns
returns c =
    let hidden = c.args.hidden in
    rw (c.if-all.false, ne_eqb hidden.count 0 c.if-hidden-eq0.false)
    (seven_words c.push_words-4.result _ c.args.buffer.now.items (codes "Messages with notes that are on no line: ")
    (decimal hidden.count) (codes ", from ") (decimal hidden.first) (codes " to ") (decimal hidden.last)
    (codes "; `--all` has them.\n")
    (rw (
      c.in_ok-push_number-3.ensures,
      c.in_ok-push_words-3.ensures,
      c.in_ok-push_number-2.ensures,
      c.in_ok-push_words-2.ensures,
      c.in_ok-push_number.ensures,
      c.in_ok-push_words.ensures,
    ) at c.push_words-4.ensures))
