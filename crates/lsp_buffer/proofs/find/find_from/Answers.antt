use Rattle.lsp_buffer.proofs.Prelude.{arith, common_steps, subst, sym, Reaches}
use Rattle.lsp_buffer.proofs.Queries.FoundLemmas.{block_found, block_next, block_room}
use Rattle.lsp_buffer.proofs.find.find_from.Goals as goal
use Rattle.std.proofs.lemmas.Grind.{common_steps}

pub loop-index-init : goal.loop-index-init
loop-index-init c = record {
  within = c.pass-passed.ensures.passed.within;
  before = c.before_of-before.ensures;
  low = subst (Reaches c.args.target) (sym c.before_of-before.ensures) c.pass-passed.ensures.passed.low;
}

pub plus-next-requires : goal.plus-next-requires
plus-next-requires c = block_room c.args.blocks.now c.requires.are c.requires.size c.args.target c.loop-index.index
    c.index-blocks-index.result c.counts.result c.loop-index.before (omega arith) c.index-blocks-index.is
    c.counts.ensures c.loop-index.invariant

pub loop-index-preserved : goal.loop-index-preserved
loop-index-preserved c = grind (arith, common_steps, block_next)

pub returns-then-not-reaches : goal.returns-then-not-reaches
returns-then-not-reaches c = grind (arith, common_steps, block_found)
