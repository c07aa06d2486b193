use Rattle.lsp_edit.proofs.Prelude.{drop, parts_of}
use Rattle.lsp_edit.proofs.Batches.TextEditLemmas.{Spanning}
use Rattle.lsp_edit.proofs.text_edits.spans_left.Given as goal

abbrev pub invariant-loop-edit : goal.invariant-loop-edit
invariant-loop-edit l =
    Spanning l.len l.ordered (drop l.edit-index l.ordered) l.edit-index (parts_of l.spans.items) l.low l.last
