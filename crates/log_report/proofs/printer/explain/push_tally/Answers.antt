use Rattle.log_report.proofs.Prelude.{ap, codes, decimal}
use Rattle.log_report.proofs.Reports.MemberLemmas.{seven_words}
use Rattle.log_report.proofs.printer.explain.push_tally.Goals as goal

pub returns : goal.returns
returns c =
    let t = c.args.tally.now in
    seven_words c.push_words-5.result _ c.args.buffer.now.items c.args.front.now t.words (codes ": ") (decimal t.count)
    (codes ", first message ") (decimal t.first) (codes "\n")
    (rw (
      c.in_ok-push_number-2.ensures,
      c.in_ok-push_words-4.ensures,
      c.in_ok-push_number.ensures,
      c.in_ok-push_words-3.ensures,
      c.in_ok-push_words-2.ensures,
      c.in_ok-push_words.ensures,
      c.deref.ensures,
      ap (λ t. t.words) c.tally.view_is,
      c.count.ensures,
      ap (λ t. t.first) c.tally.view_is,
    ) at c.push_words-5.ensures)
