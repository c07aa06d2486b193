use Rattle.lsp_edit.proofs.Prelude.{arith}
use Rattle.lsp_edit.proofs.Parts.PassingLemmas.{span_passed}
use Rattle.lsp_edit.proofs.pieces.through.push_between.Goals as goal

pub loop-index-preserved : goal.loop-index-preserved
loop-index-preserved c = (
  span_passed c.args.spans.now c.loop-index.index _ c.loop-index.passed c.args.from c.len-passed.result
      c.loop-index-test.true c.len-passed.ensures (omega (
        arith,
        c.len.ensures,
        c.len-passed.ensures,
        c.loop-index.invariant.0.within,
      )) c.loop-index.invariant.0,
  c.loop-index.invariant.1,
)
