use Rattle.lsp_text.proofs.Prelude.{ap, ◌∙◌, ◌++◌, take, drop}
use Rattle.lsp_text.proofs.TextLines.ShiftLemmas.{drained_is}
use Rattle.lsp_text.proofs.lines.splice.replace.Goals as goal

pub returns-in_ok-splice-clause-ok : goal.returns-in_ok-splice-clause-ok
returns-in_ok-splice-clause-ok c =
    let gave = c.in_ok-splice.ensures.items in
    gave.4 ∙ ap (λ xs. take c.args.keep c.args.starts.now.items ++ (xs ++ drop c.args.past c.args.starts.now.items))
    (drained_is gave.0 gave.1 c.args.fresh.items gave.2.0 (gave.2.1 ∙ c.args.fresh.ok.0) gave.3)
