use Rattle.lsp_edit.proofs.Prelude.{◌≡◌, drop, parts_of, ArePassed}
use Rattle.lsp_edit.proofs.pieces.through.push_between.Given as goal

abbrev pub invariant-loop-index : goal.invariant-loop-index
invariant-loop-index l = ArePassed (parts_of l.spans) (parts_of (drop l.index l.spans)) l.passed l.from
    × (l.out.items ≡ l.fn.out.items)
