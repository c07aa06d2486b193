use Rattle.lsp_edit.proofs.Prelude.{drop, parts_of}
use Rattle.lsp_edit.proofs.Parts.PartLemmas.{Fronts}
use Rattle.lsp_edit.proofs.pieces.replace.push_front.Given as goal

abbrev pub invariant-loop-span : goal.invariant-loop-span
invariant-loop-span l = Fronts (parts_of l.out.items) (parts_of (drop l.span-index l.spans)) l.left
    (parts_of l.fn.out.items) (parts_of l.spans) l.place
