use Rattle.lsp_edit.proofs.Prelude.{ℕ, List, ap, ◌∙◌, chars, plain}
use Rattle.lsp_edit.proofs.Deltas.LayerLemmas.{first_reached}
use Rattle.lsp_edit.proofs.joined.Joined.over.Goals as goal

pub returns-clause-reached : goal.returns-clause-reached
returns-clause-reached c =
    first_reached c.args.text.now _ c.in_ok-before.ensures.utf8
    (c.begin.ensures ∙ ap (λ (b : List ℕ). record { before = b; items = plain (chars b) }) c.in_ok-before.ensures.copy)
