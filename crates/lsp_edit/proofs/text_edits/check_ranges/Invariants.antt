use Rattle.lsp_edit.proofs.Prelude.{drop, chars, units_in}
use Rattle.lsp_edit.proofs.Batches.TextEditLemmas.{Locating}
use Rattle.lsp_edit.proofs.text_edits.check_ranges.Given as goal

abbrev pub invariant-loop-number : goal.invariant-loop-number
invariant-loop-number l = Locating (units_in l.encoding) (chars l.text) l.edits l.number (drop l.number l.edits)
