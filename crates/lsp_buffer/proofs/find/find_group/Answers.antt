use Rattle.lsp_buffer.proofs.Prelude.{get_or_default}
use Rattle.lsp_buffer.proofs.Queries.FoundLemmas.{begins_first, group_next, group_room}
use Rattle.lsp_buffer.proofs.find.find_group.Goals as goal

pub loop-number-init : goal.loop-number-init
loop-number-init c =
    begins_first c.args.blocks.now c.args.target c.none-before.result c.requires.are c.none-before.ensures

pub plus-next-requires : goal.plus-next-requires
plus-next-requires c = group_room c.args.blocks.now c.args.groups.now c.requires c.args.target c.loop-number.number _
    c.loop-number.before c.loop-number-test.true
    (get_or_default c.args.groups.now c.loop-number.number _ _ c.loop-number-test.true) c.loop-number.invariant

pub loop-number-preserved : goal.loop-number-preserved
loop-number-preserved c = group_next c.args.blocks.now c.args.groups.now c.requires c.args.target c.loop-number.number _
    c.loop-number.before c.loop-number-test.true
    (get_or_default c.args.groups.now c.loop-number.number _ _ c.loop-number-test.true) c.loop-number.invariant
    c.plus-next.result c.plus-next.ensures (c.reaches.ensures.0 c.if-not-reaches.false)
