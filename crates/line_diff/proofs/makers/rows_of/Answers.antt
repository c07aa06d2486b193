use Rattle.line_diff.proofs.Prelude.{[], arith, append_assoc, map-append, common_steps}
use Rattle.line_diff.proofs.MakerLemmas.{row_first}
use Rattle.line_diff.proofs.makers.rows_of.Goals as goal

pub loop-line-preserved : goal.loop-line-preserved
loop-line-preserved c =
    grind (
      arith,
      common_steps,
      map-append,
      append_assoc,
      (row_first c.args.lines.now (record {
        ref_ptr = (0, 0);
        now = [];
      }) c.loop-line.line-index c.loop-line.rest c.from_place-rest.result c.loop-line-test.true (cc)),
    )
