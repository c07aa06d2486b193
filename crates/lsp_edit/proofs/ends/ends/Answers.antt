use Rattle.lsp_edit.proofs.Prelude.{◌∙◌, chars, units_in}
use Rattle.lsp_edit.proofs.Composing.EndLemmas.{places_same}
use Rattle.lsp_edit.proofs.ends.ends.Goals as goal

pub returns : goal.returns
returns c =
    c.ends_in_order.ensures
    ∙ places_same (units_in c.args.encoding) (chars c.args.text.now) c.args.range c.args.change _ _
    (c.ok-start.ensures.value ∙ c.resolve.ensures.value) (c.ok-stop.ensures.value ∙ c.resolve-2.ensures.value)
