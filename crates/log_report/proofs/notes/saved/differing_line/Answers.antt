use Rattle.log_report.proofs.Prelude.{true, false, sym, ◌∙◌, arith, common_steps}
use Rattle.log_report.proofs.Reports.SavedLemmas.{goes_on, is_over}
use Rattle.log_report.proofs.notes.saved.differing_line.Goals.{then-ends_both, else-ends_both}
use Rattle.log_report.proofs.notes.saved.differing_line.Goals as goal

pub bytes-preserved : goal.bytes-preserved
bytes-preserved c =
    let held = c.bytes.invariant in
    let text = c.args.text.now in
    let next = c.bytes.next in
    elim c.if-ends_both.branch [
      | then-ends_both w ↦
          rw w.line-is (record {
            within = omega (arith, c.bytes-test.true);
            few = omega (arith, held.few);
            rest = held.rest
                ∙ goes_on true c.bytes.line next text c.args.other.now c.bytes-test.true c.if-next-other.true
                c.if-text-next.false (sym c.ends_both.ensures ∙ w.if-ends_both.true);
          })
      | else-ends_both w ↦
          rw w.line-is (record {
            within = omega (arith, c.bytes-test.true);
            few = omega (arith, held.few);
            rest = held.rest
                ∙ goes_on false c.bytes.line next text c.args.other.now c.bytes-test.true c.if-next-other.true
                c.if-text-next.false (sym c.ends_both.ensures ∙ w.if-ends_both.false);
          })
    ]

pub returns-else-next-other : goal.returns-else-next-other
returns-else-next-other c = grind (arith, common_steps, is_over, c.bytes.invariant.rest, c.if-next-other.false)
