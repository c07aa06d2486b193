use Rattle.lsp_buffer.proofs.Prelude.{◌≡◌, ◌≢◌, ◌++◌, ◌∙◌, List, ℕ, Some, subst, false≢true}
use Rattle.std.proofs.Common.{None}
use Rattle.std.proofs.lemmas.Bool.Decides.{Decides-eqb}
use Rattle.std.proofs.lemmas.Slice.Eq.{strip_prefix_is}
use Rattle.lsp_buffer.proofs.Queries.ReadLemmas.{text_more, text_none}
use Rattle.lsp_buffer.proofs.block.are_text.Goals as goal

pub returns-in-None : goal.returns-in-None
returns-in-None c = (
  λ h. absurd (false≢true h),
  λ whole.
      absurd
      (text_none c.args.blocks.now c.loop-block.block-index c.block-item.result c.loop-block.rest.now c.args.bytes.now
      c.loop-block-test.true c.block-item.is c.loop-block.invariant
      (subst (λ (b : List ℕ). (back : List ℕ) → c.loop-block.rest.now ≢ b ++ back) (c.as_bytes.ensures.value
      ∙ c.text.ensures) (strip_prefix_is Decides-eqb c.loop-block.rest.now c.as_bytes.result.now None
      c.in-None.ensures.cases))
      whole),
)

pub loop-block-preserved : goal.loop-block-preserved
loop-block-preserved c =
    text_more c.args.blocks.now c.loop-block.block-index c.block-item.result c.loop-block.rest.now c.in-Some.back.now
    c.args.bytes.now c.loop-block-test.true c.block-item.is c.loop-block.invariant
    (subst (λ (b : List ℕ). c.loop-block.rest.now ≡ b ++ c.in-Some.back.now) (c.as_bytes.ensures.value ∙ c.text.ensures)
    (strip_prefix_is Decides-eqb c.loop-block.rest.now c.as_bytes.result.now (Some c.in-Some.back)
    c.in-Some.ensures.cases))
