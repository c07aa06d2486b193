use Rattle.lsp_buffer.proofs.Prelude.{◌∙◌, ◌++◌, ap, sym, string_bytes}
use Rattle.lsp_buffer.proofs.Blocks.CutLemmas.{concat_more}
use Rattle.lsp_buffer.proofs.text_buffer.TextBuffer.to_string.Goals as goal

pub loop-block-preserved : goal.loop-block-preserved
loop-block-preserved c =
    c.in_ok-push_str.ensures.bytes ∙ (ap (λ x. string_bytes c.loop-block.text ++ x) c.text.ensures
    ∙ (ap (λ x. x ++ c.block-item.result) c.loop-block.invariant ∙
    sym (concat_more c.deref-block-items.result.now c.loop-block.block-index c.block-item.result c.loop-block-test.true
    c.block-item.is)))
