use Rattle.lsp_buffer.proofs.Prelude.{◌+◌, arith, ap, Counts}
use Rattle.lsp_buffer.proofs.Blocks.CountLemmas.{ends_low}
use Rattle.lsp_buffer.proofs.Queries.FoundLemmas.{last_room, last_sum}
use Rattle.lsp_buffer.proofs.text_buffer.TextBuffer.line_count.Goals as goal

pub plus-requires : goal.plus-requires
plus-requires c = last_room c.args.self.now c.part_at-last.ensures.front c.part_at-last.result.block.now
    c.part_at-last.ensures.rest c.part_at-last.result.before 18446744073709551615 c.part_at-last.ensures.at
    c.counts.result c.counts.ensures

pub returns-clause-count : goal.returns-clause-count
returns-clause-count c = ap (λ (sum : Counts). sum.ends + 1)
    (last_sum c.args.self.now c.part_at-last.ensures.front c.part_at-last.result.block.now
    c.part_at-last.ensures.rest c.part_at-last.result.before 18446744073709551615 c.part_at-last.ensures.at
    c.counts.result c.plus.result c.counts.ensures (omega (arith, c.part_at-last.ensures.at.size)) c.plus.ensures)

pub returns-clause-few : goal.returns-clause-few
returns-clause-few c = omega (arith, returns-clause-count c, ends_low c.args.self.now c.part_at-last.ensures.at.utf8)
