use Rattle.lsp_edit.proofs.Prelude.{drop, map, string_bytes, chars, units_in, gaps, content_change, items_of, parts_of}
use Rattle.lsp_edit.proofs.Canonical.WalkLemmas.{Walks, changes_of}
use Rattle.lsp_edit.proofs.pieces.canonical.canonical_of.Given as goal

abbrev pub invariant-loop-span : goal.invariant-loop-span
invariant-loop-span l =
    Walks
    (units_in l.encoding)
    l.before
    (changes_of (units_in l.encoding) (chars l.before)
    (gaps (chars l.before) (items_of (chars l.before) (parts_of l.spans))))
    (map content_change l.changes.items)
    l.low
    (string_bytes l.text)
    (parts_of (drop l.span-index l.spans))
