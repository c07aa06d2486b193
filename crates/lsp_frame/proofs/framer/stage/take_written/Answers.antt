use Rattle.lsp_frame.proofs.Prelude.{◌≡◌, ◌+◌, take, length, arith, length-take, common_steps}
use Rattle.lsp_frame.proofs.FrameLemmas.{body_frame}
use Rattle.lsp_frame.proofs.WrittenHeaderLemmas.{written_in_body}
use Rattle.lsp_frame.proofs.framer.stage.take_written.Goals as goal

pub returns-clause-stage : goal.returns-clause-stage
returns-clause-stage c =
    grind (
      arith,
      common_steps,
      written_in_body,
      c.if-is_err.ensures.negation,
      c.requires.nothing_buffered,
      c.first-frame.ensures,
      c.extend_from_slice.ensures.items,
      c.requires.written,
    )

pub returns-clause-stops : goal.returns-clause-stops
returns-clause-stops c = λ less.
    let items : c.extend_from_slice.new.self.items ≡ take (c.args.header.len + c.args.header.body) c.args.piece.now =
    grind (
      arith,
      common_steps,
      c.if-is_err.ensures.negation,
      c.requires.nothing_buffered,
      c.first-frame.ensures,
      c.extend_from_slice.ensures.items,
    ) in
    let all : length (take (c.args.header.len + c.args.header.body) c.args.piece.now) ≡ c.args.header.len
    + c.args.header.body =
    grind (arith, common_steps, length-take, c.first-frame.ensures) in
    rw items (body_frame c.args.max_body (take (c.args.header.len + c.args.header.body) c.args.piece.now)
    c.args.header.len (c.args.header.len + c.args.header.body)
    (written_in_body c.args.max_body c.args.piece.now c.args.header c.requires.written) all)
