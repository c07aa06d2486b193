use Rattle.lsp_frame.proofs.Prelude.{sym, ◌∙◌}
use Rattle.lsp_frame.proofs.WordLemmas.{first_part, only_part}
use Rattle.lsp_frame.proofs.framer.words.has_good_charset.Goals as goal

pub returns-in-Some : goal.returns-in-Some
returns-in-Some c = c.are_good_parameters.ensures ∙ sym (first_part c.args.value.now c.in-Some.at c.in-Some.ensures)

pub returns-in-None : goal.returns-in-None
returns-in-None c = sym (only_part c.args.value.now c.in-None.ensures)
