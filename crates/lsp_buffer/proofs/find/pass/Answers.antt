use Rattle.lsp_buffer.proofs.Prelude.{arith, refl}
use Rattle.lsp_buffer.proofs.Queries.FoundLemmas.{passed_next, passed_room}
use Rattle.lsp_buffer.proofs.find.pass.Goals as goal

pub overflow_add-next_len : goal.overflow_add-next_len
overflow_add-next_len c =
    let room = passed_room c.args.blocks.now c.requires.are c.requires.size c.args.target c.loop-index.index
    c.loop-index.len c.loop-index.ends c.index-blocks-index.result c.counts-counts.result (omega arith)
    c.index-blocks-index.is c.counts-counts.ensures c.loop-index.invariant in
    omega (arith, room.len, c.loop-index.invariant.len_is)

pub overflow_add-next_ends : goal.overflow_add-next_ends
overflow_add-next_ends c =
    let room = passed_room c.args.blocks.now c.requires.are c.requires.size c.args.target c.loop-index.index
    c.loop-index.len c.loop-index.ends c.index-blocks-index.result c.counts-counts.result (omega arith)
    c.index-blocks-index.is c.counts-counts.ensures c.loop-index.invariant in
    omega (arith, room.ends, c.loop-index.invariant.ends_are)

pub loop-index-preserved : goal.loop-index-preserved
loop-index-preserved c = passed_next c.args.blocks.now c.requires.are c.requires.size c.args.target c.loop-index.index
    c.loop-index.len c.loop-index.ends c.index-blocks-index.result c.counts-counts.result (omega arith)
    c.index-blocks-index.is c.counts-counts.ensures c.loop-index.invariant _ _ refl refl
    (c.passes.ensures c.if-not-passes.false)
