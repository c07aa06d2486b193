use Rattle.lsp_edit.proofs.Prelude.{drop, map, chars, units_in, meaning, content_change}
use Rattle.lsp_edit.proofs.Composing.RoomLemmas.{Applying}
use Rattle.lsp_edit.proofs.composed.compose.Given as goal

abbrev pub invariant-loop-change : goal.invariant-loop-change
invariant-loop-change l =
    Applying (units_in l.encoding) (chars l.before) (meaning (units_in l.encoding) (chars l.before)
    (map content_change l.changes)) l.change-index (drop l.change-index l.changes) l.pieces.edited
