use Rattle.lsp_buffer.proofs.Prelude.{ap, ◌∙◌, ◌++◌, take, drop}
use Rattle.lsp_buffer.proofs.Blocks.DrainLemmas.{drained_blocks}
use Rattle.lsp_buffer.proofs.text_buffer.change.replace_blocks.Goals as goal

pub returns-clause-ok : goal.returns-clause-ok
returns-clause-ok c =
    let gave = c.in_ok-splice.ensures.items in
    gave.4 ∙ ap (λ xs. take c.args.from c.args.blocks.now.items ++ (xs ++ drop c.args.to c.args.blocks.now.items))
    (drained_blocks gave.0 gave.1 c.args.fresh.items gave.2.0 (gave.2.1 ∙ c.args.fresh.ok.0) gave.3)
