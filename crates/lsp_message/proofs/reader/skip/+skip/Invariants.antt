use Rattle.lsp_message.proofs.Prelude.{◌+◌, ◌*◌, length, Items, no_items, Members, no_members, items_at, members_at}
use Rattle.lsp_message.proofs.Grammar.{IsLeft}
use Rattle.lsp_message.proofs.reader.skip.+skip.Given as goal

abbrev pub decreases-skip_value : goal.decreases-skip_value
decreases-skip_value l = 3 * l.depth + 1

abbrev pub decreases-skip_value_from : goal.decreases-skip_value_from
decreases-skip_value_from l = 3 * l.depth

abbrev pub decreases-skip_items : goal.decreases-skip_items
decreases-skip_items l = 3 * l.depth + 2

abbrev pub decreases-skip_members : goal.decreases-skip_members
decreases-skip_members l = 3 * l.depth + 2

abbrev pub invariant-skip_items-items : goal.invariant-skip_items-items
invariant-skip_items-items l = (found : Items) × IsLeft (items_at l.depth) no_items l.initial.reader found l.reader

abbrev pub decreases-skip_items-items : goal.decreases-skip_items-items
decreases-skip_items-items l = length l.reader

abbrev pub invariant-skip_members-members : goal.invariant-skip_members-members
invariant-skip_members-members l =
    (found : Members) × IsLeft (members_at l.depth) no_members l.initial.reader found l.reader

abbrev pub decreases-skip_members-members : goal.decreases-skip_members-members
decreases-skip_members-members l = length l.reader
