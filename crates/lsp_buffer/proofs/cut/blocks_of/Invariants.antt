use Rattle.lsp_buffer.proofs.Prelude.{length}
use denote.Text.{Utf8}
use denote.Shadow.{shadow}
use Rattle.lsp_buffer.proofs.Blocks.CutLemmas.{IsCutSoFar}
use Rattle.lsp_buffer.proofs.cut.blocks_of.Given as goal

abbrev pub invariant-loop-cut : goal.invariant-loop-cut
invariant-loop-cut l = shadow (Utf8 l.rest) × IsCutSoFar l.text l.rest l.blocks.items

abbrev pub decreases-loop-cut : goal.decreases-loop-cut
decreases-loop-cut l = length l.rest
