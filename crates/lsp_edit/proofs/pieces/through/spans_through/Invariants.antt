use Rattle.lsp_edit.proofs.Prelude.{◌≤◌, drop, length, parts_of}
use Rattle.lsp_edit.proofs.Parts.PassedLemmas.{Walks}
use Rattle.lsp_edit.proofs.pieces.through.spans_through.Given as goal

abbrev pub invariant-loop-span : goal.invariant-loop-span
invariant-loop-span l =
    (l.begun ≤ length l.first) × Walks (parts_of l.first) (parts_of l.second) (parts_of l.out.items)
    (parts_of (drop l.begun l.first)) l.passed (parts_of (drop l.span-index l.second))
