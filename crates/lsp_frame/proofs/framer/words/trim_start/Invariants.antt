use Rattle.lsp_frame.proofs.Prelude.{◌≡◌, length, trimmed_start}
use Rattle.lsp_frame.proofs.framer.words.trim_start.Given as goal

abbrev pub invariant-loop-bytes : goal.invariant-loop-bytes
invariant-loop-bytes l = trimmed_start l.bytes ≡ trimmed_start l.initial.bytes

abbrev pub decreases-loop-bytes : goal.decreases-loop-bytes
decreases-loop-bytes l = length l.bytes
