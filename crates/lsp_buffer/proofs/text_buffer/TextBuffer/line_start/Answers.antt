use Rattle.lsp_buffer.proofs.Prelude.{ap, ◌∙◌, option_map, chars, place_of}
use Rattle.lsp_buffer.proofs.Queries.ContentsLemmas.{first_denotes, value_of}
use Rattle.lsp_buffer.proofs.text_buffer.TextBuffer.line_start.Goals as goal

pub returns : goal.returns
returns c =
    c.unwrap_or.ensures ∙ value_of c.resolve.result _ _ (c.resolve.ensures.value
    ∙ ap (option_map (place_of (chars c.args.self.now))) (first_denotes (chars c.args.self.now) c.args.line c.requires))
