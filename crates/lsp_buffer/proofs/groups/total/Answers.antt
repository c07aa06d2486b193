use Rattle.lsp_buffer.proofs.Blocks.BlockLemmas.{full_take, full_text}
use Rattle.lsp_buffer.proofs.Blocks.CountLemmas.{room_more, sum_more}
use Rattle.lsp_buffer.proofs.groups.total.Goals as goal

pub plus-counts-requires : goal.plus-counts-requires
plus-counts-requires c =
    room_more c.args.blocks.now c.loop-block.block-index c.block-item.result c.loop-block-test.true c.block-item.is
    (full_take c.loop-block.block-index c.args.blocks.now c.requires.full) c.loop-block.counts c.counts.result
    c.loop-block.invariant c.counts.ensures
    (full_text c.args.blocks.now c.loop-block.block-index c.block-item.result c.loop-block-test.true c.block-item.is
    c.requires.full) c.requires.size

pub loop-block-preserved : goal.loop-block-preserved
loop-block-preserved c =
    sum_more c.args.blocks.now c.loop-block.block-index c.block-item.result c.loop-block-test.true c.block-item.is
    (full_take c.loop-block.block-index c.args.blocks.now c.requires.full) c.loop-block.counts c.counts.result
    c.loop-block.invariant c.counts.ensures c.plus-counts.result c.plus-counts.ensures
