use Rattle.lsp_buffer.proofs.Prelude.{take, ◌++◌, ◌∙◌, ap, sym, subst, rules, List, ℕ, HasWritten, concat}
use Rattle.std.proofs.Output.{has_written_append}
use Rattle.lsp_buffer.proofs.Blocks.CutLemmas.{concat_more}
use Rattle.lsp_buffer.proofs.text_buffer.TextBufferDisplay.fmt.Goals as goal

pub loop-block-preserved : goal.loop-block-preserved
loop-block-preserved g c = λ plain.
    subst (λ (bs : List ℕ). HasWritten g.W.Write.write_str_gives c.args.f.now bs c.write_str.new.self)
    (ap (λ bs. concat (take c.loop-block.block-index c.deref-block-items.result.now) ++ bs) c.text.ensures ∙
    sym (concat_more c.deref-block-items.result.now c.loop-block.block-index c.block-item.result c.loop-block-test.true
    c.block-item.is))
    (has_written_append _ _ _ _ _ _ (c.loop-block.invariant plain) (search rules))
