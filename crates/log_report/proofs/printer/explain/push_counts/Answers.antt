use Rattle.log_report.proofs.Prelude.{[], ap, codes, decimal, flat_map, tally_words}
use Rattle.log_report.proofs.Reports.MemberLemmas.{eight_words}
use Rattle.log_report.proofs.printer.explain.push_counts.Goals as goal

pub returns : goal.returns
returns c =
    let counts = c.args.counts.now in
    eight_words c.push_tallies-3.result _ c.args.buffer.now.items (codes "messages of the editor: ")
    (decimal c.args.messages) (codes ", changed documents: ") (decimal counts.changes) (codes "\n")
    (flat_map (tally_words []) counts.drops) (flat_map (tally_words (codes "refused by ")) counts.refusals)
    (flat_map (tally_words (codes "noted ")) counts.noted)
    (rw (
      c.in_ok-push_tallies-2.ensures,
      c.in_ok-push_tallies.ensures,
      c.in_ok-push_words-3.ensures,
      c.in_ok-push_number-2.ensures,
      c.in_ok-push_words-2.ensures,
      c.in_ok-push_number.ensures,
      c.in_ok-push_words.ensures,
      c.deref.ensures.value,
      c.deref-2.ensures.value,
      c.deref-3.ensures.value,
      ap (λ k. k.changes) c.counts.view_is,
      ap (λ k. k.drops) c.counts.view_is,
      ap (λ k. k.refusals) c.counts.view_is,
      ap (λ k. k.noted) c.counts.view_is,
    ) at c.push_tallies-3.ensures)
