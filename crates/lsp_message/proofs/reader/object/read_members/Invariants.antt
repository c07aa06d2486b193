use Rattle.lsp_message.proofs.Prelude.{length, Members, no_members, members_at}
use Rattle.lsp_message.proofs.Grammar.{IsLeft}
use Rattle.lsp_message.proofs.reader.object.read_members.Given as goal

abbrev pub invariant-members : goal.invariant-members
invariant-members g l =
    (found : Members) × IsLeft (members_at l.depth) no_members l.initial.reader found l.reader
    × g.K.Kept.IsOf l.kept found

abbrev pub decreases-members : goal.decreases-members
decreases-members g l = length l.reader
