use Rattle.lsp_text.proofs.Prelude.{◌∙◌, lead_units_utf32, units_in, utf32_bounds, Utf32}
use Rattle.lsp_text.proofs.Counting.LeadLemmas.{place_of_text, utf32_first}
use Rattle.lsp_text.proofs.position.in_line.Utf32InLine.place_in.Goals as goal

pub returns : goal.returns
returns c = c.place_by_leads.ensures ∙ place_of_text lead_units_utf32 (units_in Utf32) utf32_first
    (λ x. (utf32_bounds x).0) c.args.line.now c.requires c.args.character
