use Rattle.lsp_edit.proofs.Prelude.{◌≡◌, AreParts, bytes_of, drop, parts_of, string_bytes, ◌++◌}
use Rattle.lsp_edit.proofs.pieces.Pieces.text.Given as goal

abbrev pub invariant-loop-span : goal.invariant-loop-span
invariant-loop-span l =
    AreParts l.before (parts_of (drop l.span-index l.span-items))
    × (string_bytes l.text ++ bytes_of l.before (parts_of (drop l.span-index l.span-items))
    ≡ bytes_of l.before (parts_of l.span-items))
