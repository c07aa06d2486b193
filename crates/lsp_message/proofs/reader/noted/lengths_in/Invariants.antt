use Rattle.lsp_message.proofs.Prelude.{◌≡◌, ◌++◌, drop, items_view, lengths_in}
use Rattle.lsp_message.proofs.reader.noted.lengths_in.Given as goal

-- those so far, and those of the rest
abbrev pub invariant-loop-change : goal.invariant-loop-change
invariant-loop-change l = l.lengths.items ++ lengths_in (items_view (drop l.change-index l.changes))
    ≡ lengths_in (items_view l.changes)
