use Rattle.lsp_buffer.proofs.Prelude.{arith, length-append, common_steps}
use Rattle.lsp_buffer.proofs.Blocks.GroupLemmas.{groups_more, slice_counts, slice_full, slice_small}
use Rattle.lsp_buffer.proofs.groups.fill.Goals as goal
use Rattle.std.proofs.lemmas.Grind.{common_steps}

pub total-counts-requires-clause-full : goal.total-counts-requires-clause-full
total-counts-requires-clause-full c =
    slice_full c.args.blocks.now c.requires.are c.requires.size c.loop-group.group (omega arith)

pub total-counts-requires-clause-size : goal.total-counts-requires-clause-size
total-counts-requires-clause-size c =
    slice_small c.args.blocks.now c.requires.are c.requires.size c.loop-group.group (omega arith)

pub loop-group-preserved : goal.loop-group-preserved
loop-group-preserved c =
    grind (arith, common_steps, groups_more, slice_counts, length-append)
