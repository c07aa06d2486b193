use Rattle.lsp_buffer.proofs.Prelude.{sym}
use Rattle.lsp_buffer.proofs.Blocks.CountLemmas.{none_count}
use Rattle.lsp_buffer.proofs.counts.Counts.none.Goals as goal

pub returns : goal.returns
returns c = sym none_count
