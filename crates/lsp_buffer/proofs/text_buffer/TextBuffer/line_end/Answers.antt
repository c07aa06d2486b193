use Rattle.lsp_buffer.proofs.Prelude.{ap, ◌∙◌, option_map, chars, place_of}
use Rattle.lsp_buffer.proofs.Queries.ContentsLemmas.{last_denotes, value_of}
use Rattle.lsp_buffer.proofs.text_buffer.TextBuffer.line_end.Goals as goal

pub returns-clause-value : goal.returns-clause-value
returns-clause-value c =
    c.unwrap_or.ensures ∙ value_of c.resolve.result _ _
    (c.resolve.ensures.value ∙ ap (option_map (place_of (chars c.args.self.now)))
    (last_denotes c.args.self.now c.args.line c.len-len.ensures.utf8 c.len-len.ensures.size c.requires))
