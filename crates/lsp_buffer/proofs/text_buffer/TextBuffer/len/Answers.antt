use Rattle.lsp_buffer.proofs.Prelude.{subst, IsUtf8}
use Rattle.lsp_buffer.proofs.Blocks.BlockLemmas.{blocks_utf8}
use Rattle.lsp_buffer.proofs.text_buffer.TextBuffer.len.Goals as goal

pub returns-clause-utf8 : goal.returns-clause-utf8
returns-clause-utf8 c = subst IsUtf8 c.self.view_is (blocks_utf8 c.self.inside.blocks.items c.self.invariant.0.are)
