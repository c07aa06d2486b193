use Rattle.lsp_edit.proofs.Prelude.{drop, chars, units_in, ArePlaced}
use Rattle.lsp_edit.proofs.text_edits.place_all.Given as goal

abbrev pub invariant-loop-edit : goal.invariant-loop-edit
invariant-loop-edit l = ArePlaced (units_in l.encoding) (chars l.text) l.edits (drop l.edit-index l.edits)
    l.placed.items
