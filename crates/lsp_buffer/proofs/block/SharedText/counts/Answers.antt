use Rattle.lsp_buffer.proofs.Prelude.{◌≡◌, ◌-◌, length, arith, ap, block_ends, common_steps}
use Rattle.lsp_buffer.proofs.Blocks.CountLemmas.{ends_low}
use Rattle.lsp_buffer.proofs.block.SharedText.counts.Goals as goal
use Rattle.std.proofs.lemmas.Grind.{common_steps}

pub overflow_cast-result-2 : goal.overflow_cast-result-2
overflow_cast-result-2 c = grind (arith, common_steps, ends_low)

pub returns : goal.returns
returns c =
    let ends : c.count.result - 1 ≡ block_ends c.args.self.now =
    omega (arith, c.count.ensures.line_ends c.args.self.now c.lines-lines.ensures) in
    λ i. record {
      len = ap length c.text-text.ensures i;
      ends = ends i;
      utf8 = c.head.ensures i;
      utf16 = c.head-2.ensures i;
      utf32 = c.head-3.ensures i;
    }
