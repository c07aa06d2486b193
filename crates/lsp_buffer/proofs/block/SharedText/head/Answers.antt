use Rattle.lsp_buffer.proofs.Prelude.{ℕ, length, sym, ap, arith, subst, chars, IsPlace, common_steps}
use Rattle.lsp_buffer.proofs.Blocks.FeedLemmas.{feed_head, end_place, end_at}
use Rattle.lsp_buffer.proofs.block.SharedText.head.Goals as goal
use Rattle.std.proofs.lemmas.Grind.{common_steps}

pub returns-then-bytes-end-eq10 : goal.returns-then-bytes-end-eq10
returns-then-bytes-end-eq10 c =
    grind (arith, common_steps, feed_head)

pub position-requires-clause-place : goal.position-requires-clause-place
position-requires-clause-place c = subst (λ (n : ℕ). IsPlace (chars c.text-text.result.now) n)
    (ap length (sym c.as_bytes-bytes.ensures.value)) (end_place c.text-text.result.now c.text-text.utf8)

pub returns : goal.returns
returns c =
    grind (arith, common_steps, end_at)
