use Rattle.lsp_frame.proofs.WrittenLemmas.{ok_is_frame}
use Rattle.lsp_frame.proofs.written.frame.Goals as goal

pub returns-clause-is_frame_of : goal.returns-clause-is_frame_of
returns-clause-is_frame_of c = ok_is_frame c.args.body.now c.written_bytes.result c.written_bytes.ensures
