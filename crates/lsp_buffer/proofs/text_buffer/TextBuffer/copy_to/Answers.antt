use Rattle.lsp_buffer.proofs.Prelude.{arith}
use Rattle.lsp_buffer.proofs.Queries.CopyLemmas.{IsEnd, copied_more}
use Rattle.lsp_buffer.proofs.text_buffer.TextBuffer.copy_to.Goals as goal

pub loop-copied-preserved : goal.loop-copied-preserved
loop-copied-preserved c =
    let ends : IsEnd c.args.self.now c.args.out.now c.args.start c.min-end.result =
    record { room = omega (arith, c.min-end.ensures); some = omega (arith, c.min-end.ensures, c.len.ensures.len) } in
    copied_more c.args.self.now c.args.out.now c.loop-copied.out c.bytes_from-bytes.result.now c.args.start
    c.min-end.result c.loop-copied.copied c.copy_front-copied.result ends c.loop-copied.invariant
    c.copy_front-copied.ensures.count c.bytes_from-bytes.ensures.part c.copy_front-copied.new.out
    c.copy_front-copied.ensures.bytes
