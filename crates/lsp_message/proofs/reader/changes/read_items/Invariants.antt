use Rattle.lsp_message.proofs.Prelude.{◌≡◌, length, map, Some, None, if◌then◌else◌, Items, no_items, items_at, each_of, content_change_in, content_change_view}
use Rattle.lsp_message.proofs.Grammar.{IsLeft}
use Rattle.lsp_message.proofs.reader.changes.read_items.Given as goal

-- the changes so far, unless an item so far is none
abbrev pub invariant-items : goal.invariant-items
invariant-items l =
    (items : Items) × IsLeft (items_at l.depth) no_items l.initial.reader items l.reader
    × (each_of content_change_in items
    ≡ (if l.all_changes then Some (map content_change_view l.found.items) else None))

abbrev pub decreases-items : goal.decreases-items
decreases-items l = length l.reader
