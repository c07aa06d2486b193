use Rattle.lsp_text.proofs.Prelude.{sym, ◌∙◌}
use Rattle.lsp_text.proofs.Counting.LeadLemmas.{utf8_past_text, utf8_inside_text, utf8_outside_text}
use Rattle.lsp_text.proofs.position.in_line.Utf8InLine.place_in.Goals as goal

pub returns-then-place-line : goal.returns-then-place-line
returns-then-place-line c = utf8_past_text c.args.line.now c.requires c.args.character c.if-place-line.true

pub returns-then-lead_units-eq0 : goal.returns-then-lead_units-eq0
returns-then-lead_units-eq0 c =
    utf8_inside_text c.args.line.now c.requires c.args.character c.if-place-line.false
    (sym c.lead_units.ensures ∙ c.if-lead_units-eq0.true)

pub returns-else-lead_units-eq0 : goal.returns-else-lead_units-eq0
returns-else-lead_units-eq0 c =
    utf8_outside_text c.args.line.now c.requires c.args.character c.if-place-line.false
    (λ e. c.if-lead_units-eq0.false (c.lead_units.ensures ∙ e))
