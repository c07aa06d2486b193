use Rattle.log_report.proofs.Prelude.{sum_by, arith, IsUtf8-past_char, common_steps}
use Rattle.lsp_store.proofs.Queries.UnitLemmas.{chars_none, units_few, units_next}
use Rattle.log_report.proofs.notes.units.units_of.Goals as goal

pub overflow_add-count : goal.overflow_add-count
overflow_add-count c =
    grind (
      arith,
      common_steps,
      units_next,
      units_few,
      c.loop-c.invariant.utf8,
      c.in-Some.ensures.steps.0,
      c.loop-c.invariant.counted,
      c.units.ensures,
      c.utf8.text,
    )

pub loop-c-preserved : goal.loop-c-preserved
loop-c-preserved c =
    let held = c.loop-c.invariant in
    let parts = c.in-Some.ensures.steps.0 in
    record {
      utf8 = IsUtf8-past_char _ _ c.in-Some.c held.utf8 parts;
      counted = grind (arith, common_steps, units_next, held.utf8, c.units.ensures);
    }

pub returns : goal.returns
returns c = grind (arith, common_steps, sum_by, chars_none, c.loop-c.invariant.counted, c.in-None.ensures.steps.0.0)
