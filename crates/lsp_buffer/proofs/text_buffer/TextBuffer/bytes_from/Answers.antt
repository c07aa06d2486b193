use Rattle.lsp_buffer.proofs.Prelude.{◌∙◌}
use Rattle.lsp_buffer.proofs.Queries.FoundLemmas.{chunk_is, place_part}
use Rattle.lsp_buffer.proofs.text_buffer.TextBuffer.bytes_from.Goals as goal

pub returns-clause-part : goal.returns-clause-part
returns-clause-part c =
    (chunk_is c.args.self.now c.part_at.ensures.front c.part_at.result.block.now c.part_at.ensures.rest c.args.offset
    c.part_at.result.before.len c.as_bytes-bytes.result.now c.split_at.result.1.now
    (c.as_bytes-bytes.ensures.value ∙ c.text.ensures) c.split_at.ensures.back
    (place_part c.args.self.now c.part_at.result.block.now c.part_at.result.before c.args.offset c.part_at.ensures)
    c.requires).part
