use Rattle.lsp_edit.proofs.Prelude.{◌≡◌, length, reverse, parts_of, back_parts, AreCut}
use Rattle.lsp_edit.proofs.pieces.split.remove_front.Given as goal

abbrev pub invariant-removed : goal.invariant-removed
invariant-removed l = record {
  same : back_parts (reverse (parts_of l.back.items)) l.left ≡ back_parts (reverse (parts_of l.fn.back.items)) l.count;
  cut : AreCut (reverse (parts_of l.back.items)) l.left;
}

abbrev pub decreases-removed : goal.decreases-removed
decreases-removed l = length l.back.items
