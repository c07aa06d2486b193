use Rattle.lsp_buffer.proofs.Queries.FoundLemmas.{chunk_is, place_part}
use Rattle.lsp_buffer.proofs.Queries.ReadLemmas.{chunk_next}
use Rattle.lsp_buffer.proofs.text_buffer.TextBuffer.chunk_from.Goals as goal

pub returns : goal.returns
returns c =
    let place = place_part c.args.self.now c.part_at.result.block.now c.part_at.result.before c.args.offset
    c.part_at.ensures in
    let chunk = chunk_is c.args.self.now c.part_at.ensures.front c.part_at.result.block.now c.part_at.ensures.rest
    c.args.offset c.part_at.result.before.len c.text.result.now c.range_from.result.now c.text.ensures
    c.range_from.ensures.value place c.requires.0 in record {
      part = chunk.part;
      some = chunk.some;
      next = chunk_next c.args.self.now c.part_at.ensures.front c.part_at.result.block.now c.part_at.ensures.rest
          c.args.offset c.part_at.result.before.len place c.text.result.now c.range_from.result.now
          c.part_at.ensures.at.utf8 c.text.ensures c.range_from.ensures.value c.requires;
    }
