use Rattle.lsp_edit.proofs.Prelude.{◌≡◌, ◌++◌, drop, owned_parts, parts_of}
use Rattle.lsp_edit.proofs.joined.layer.Layer.borrowed.Given as goal

abbrev pub invariant-loop-span : goal.invariant-loop-span
invariant-loop-span l = parts_of l.spans.items ++ owned_parts (drop l.span-index l.span-items)
    ≡ owned_parts l.span-items
