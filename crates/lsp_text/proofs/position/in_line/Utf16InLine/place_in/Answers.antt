use Rattle.lsp_text.proofs.Prelude.{◌∙◌, lead_units_utf16, units_in, utf16_bounds, Utf16}
use Rattle.lsp_text.proofs.Counting.LeadLemmas.{place_of_text, utf16_first}
use Rattle.lsp_text.proofs.position.in_line.Utf16InLine.place_in.Goals as goal

pub returns : goal.returns
returns c = c.place_by_leads.ensures ∙ place_of_text lead_units_utf16 (units_in Utf16) utf16_first
    (λ x. (utf16_bounds x).0) c.args.line.now c.requires c.args.character
