use Rattle.lsp_frame.proofs.Prelude.{ℕ, Option, ap, ◌∙◌, unwrap_or}
use Rattle.lsp_frame.proofs.LineLemmas.{split_is}
use Rattle.lsp_frame.proofs.framer.header.split_line.Goals as goal

pub returns : goal.returns
returns c = λ parts is e.
    split_is c.args.line.now c.memchr.result c.unwrap_or-colon.result parts c.memchr.ensures
    (λ at found. c.unwrap_or-colon.ensures ∙ ap (λ (o : Option ℕ). unwrap_or o 0) found) is e
