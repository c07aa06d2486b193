use Rattle.lsp_edit.proofs.Prelude.{arith, common_steps}
use Rattle.lsp_edit.proofs.Parts.MarkLemmas.{span_ordered}
use Rattle.lsp_edit.proofs.Parts.SplitLemmas.{sums_low}
use Rattle.lsp_edit.proofs.delta.spans.len_of.Goals as goal

pub len-len-requires : goal.len-len-requires
len-len-requires c = grind (arith, common_steps, span_ordered, c.requires.ordered, c.loop-span-test.true)

pub overflow_add-len : goal.overflow_add-len
overflow_add-len c = grind (arith, common_steps, sums_low, c.requires.short, c.loop-span-test.true)
