use Rattle.lsp_text.proofs.Counting.LeadLemmas.{utf8_units_of_text}
use Rattle.lsp_text.proofs.position.in_line.Utf8InLine.units_in.Goals as goal

pub returns : goal.returns
returns c = utf8_units_of_text c.args.line.now c.requires.utf8
