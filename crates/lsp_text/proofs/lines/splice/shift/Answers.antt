use Rattle.lsp_text.proofs.TextLines.ShiftLemmas.{shifted_more}
use Rattle.lsp_text.proofs.lines.splice.shift.Goals as goal

pub loop-index-preserved : goal.loop-index-preserved
loop-index-preserved c =
    shifted_more c.args.to c.args.end c.args.first c.loop-index.index c.args.starts.now c.loop-index.starts
    c.loop-index.auto.index c.loop-index-test.true c.loop-index.invariant
