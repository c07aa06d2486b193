use Rattle.lsp_text.proofs.Prelude.{◌∙◌, lead_units_utf16, units_in, Utf16}
use Rattle.lsp_text.proofs.Counting.LeadLemmas.{units_of_text, utf16_first}
use Rattle.lsp_text.proofs.position.in_line.Utf16InLine.units_in.Goals as goal

pub returns : goal.returns
returns c = c.units_of_bytes.ensures ∙ units_of_text lead_units_utf16 (units_in Utf16) utf16_first c.args.line.now
    c.requires.utf8
