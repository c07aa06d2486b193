use Rattle.lsp_edit.proofs.Prelude.{◌++◌, drop, string_bytes, owned_parts, AreSameItems, new_parts, parts_of}
use Rattle.lsp_edit.proofs.joined.layer.Layer.of_spans.Given as goal

abbrev pub invariant-loop-span : goal.invariant-loop-span
invariant-loop-span l =
    AreSameItems (owned_parts l.owned.items
    ++ (new_parts (string_bytes l.text) ++ parts_of (drop l.span-index l.spans))) (parts_of l.spans)
