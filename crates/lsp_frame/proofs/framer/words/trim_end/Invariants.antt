use Rattle.lsp_frame.proofs.Prelude.{◌≡◌, length, trimmed_end}
use Rattle.lsp_frame.proofs.framer.words.trim_end.Given as goal

abbrev pub invariant-loop-bytes : goal.invariant-loop-bytes
invariant-loop-bytes l = trimmed_end l.bytes ≡ trimmed_end l.initial.bytes

abbrev pub decreases-loop-bytes : goal.decreases-loop-bytes
decreases-loop-bytes l = length l.bytes
