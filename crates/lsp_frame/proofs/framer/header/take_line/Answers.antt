use Rattle.lsp_frame.proofs.Prelude.{◌+◌, refl, arith}
use Rattle.lsp_frame.proofs.ProgressLemmas.{bad_byte}
use Rattle.lsp_frame.proofs.framer.header.take_line.Goals as goal

pub returns-in-Err-clause-error : goal.returns-in-Err-clause-error
returns-in-Err-clause-error c = (
  refl,
  bad_byte c.args.max_body c.args.buffered.now.items c.args.window.now c.args.header.now c.line_len-end.result
      c.in-Err.at (c.len.result + c.in-Err.at) c.requires.so_far c.line_len-end.ensures.within c.in-Err.ensures.there
      (omega (arith, c.len.ensures)) c.in-Err.ensures.before c.in-Err.ensures.stops,
)
