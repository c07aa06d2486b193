use Rattle.lsp_edit.proofs.Prelude.{arith, IsCharBoundary-start}
use Rattle.lsp_edit.proofs.Deltas.DeltaLemmas.{put_in}
use Rattle.lsp_edit.proofs.delta.Put.text.Goals as goal

pub push_range-requires-clause-at_start : goal.push_range-requires-clause-at_start
push_range-requires-clause-at_start c =
    rw c.text-buffer.ensures (IsCharBoundary-start c.args.text.now c.requires.put.utf8)

pub push_range-requires-clause-at_end : goal.push_range-requires-clause-at_end
push_range-requires-clause-at_end c = rw c.text-buffer.ensures (put_in _ _ _ _ _ c.requires.put).at_start

pub push_range-requires-2-clause-order : goal.push_range-requires-2-clause-order
push_range-requires-2-clause-order c = omega (arith, (put_in _ _ _ _ _ c.requires.put).at_stop.0, c.len.ensures.len)

pub push_range-requires-2-clause-at_start : goal.push_range-requires-2-clause-at_start
push_range-requires-2-clause-at_start c = rw c.text-buffer.ensures (put_in _ _ _ _ _ c.requires.put).at_stop
