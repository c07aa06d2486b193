use Rattle.lsp_text.proofs.Prelude.{◌≡◌}
use Rattle.lsp_text.proofs.TextLines.ShiftLemmas.{shifted}
use Rattle.lsp_text.proofs.lines.splice.shift.Given as goal

abbrev pub invariant-loop-index : goal.invariant-loop-index
invariant-loop-index l = l.starts ≡ shifted l.to l.end l.first l.index l.fn.starts
