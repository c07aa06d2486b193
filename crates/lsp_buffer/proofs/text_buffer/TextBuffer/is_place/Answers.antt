use Rattle.lsp_buffer.proofs.Queries.FoundLemmas.{place_part}
use Rattle.lsp_buffer.proofs.Queries.ReadLemmas.{place_is_boundary, place_tested}
use Rattle.lsp_buffer.proofs.text_buffer.TextBuffer.is_place.Goals as goal

pub returns-clause-place : goal.returns-clause-place
returns-clause-place c =
    place_tested c.args.self.now c.part_at.ensures.front c.part_at.result.block.now c.part_at.ensures.rest c.args.offset
    c.part_at.result.before.len
    (place_part c.args.self.now c.part_at.result.block.now c.part_at.result.before c.args.offset c.part_at.ensures)
    c.is_place.result c.is_place.ensures.place

pub returns-clause-boundary : goal.returns-clause-boundary
returns-clause-boundary c =
    place_is_boundary c.args.self.now c.args.offset c.is_place.result c.part_at.ensures.at.utf8
    (returns-clause-place c)
