use Rattle.lsp_buffer.proofs.Prelude.{arith, common_steps}
use Rattle.lsp_buffer.proofs.Blocks.GroupLemmas.{groups_same, groups_set, groups_within, slice_counts, slice_full, slice_small}
use Rattle.lsp_buffer.proofs.groups.recount.Goals as goal
use Rattle.std.proofs.lemmas.Grind.{common_steps}

pub total-counts-requires-clause-full : goal.total-counts-requires-clause-full
total-counts-requires-clause-full c =
    grind (arith, common_steps, slice_full, groups_within)

pub total-counts-requires-clause-size : goal.total-counts-requires-clause-size
total-counts-requires-clause-size c =
    grind (arith, common_steps, slice_small, groups_within)

pub returns-then-group-groups : goal.returns-then-group-groups
returns-then-group-groups c =
    grind (arith, common_steps, groups_set, slice_counts, groups_within)

pub returns-else-group-groups : goal.returns-else-group-groups
returns-else-group-groups c =
    grind (arith, common_steps, groups_same, c.requires.other.0, c.requires.other.1, c.if-group-groups.false)
