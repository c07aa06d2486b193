use Rattle.lsp_edit.proofs.Prelude.{arith, le-leb, leb-true, same_edited}
use Rattle.lsp_edit.proofs.Composing.EditedLemmas.{bytes_seen}
use Rattle.lsp_edit.proofs.pieces.Pieces.has_room.Goals as goal

pub returns : goal.returns
returns c = rw (bytes_seen c.self.invariant.0 (same_edited c.self.view_is), ← c.self.invariant.0.long)
    (λ t. omega (arith, leb-true _ _ t, c.len.ensures), λ t. le-leb _ _ (omega (arith, c.len.ensures)))
