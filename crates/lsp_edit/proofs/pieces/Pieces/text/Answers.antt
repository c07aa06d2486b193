use Rattle.lsp_edit.proofs.Prelude.{append-nil, arith, common_steps, same_edited}
use Rattle.lsp_edit.proofs.Composing.EditedLemmas.{bytes_seen}
use Rattle.lsp_edit.proofs.pieces.Pieces.text.Goals as goal

pub loop-span-init : goal.loop-span-init
loop-span-init c =
    rw (c.get-before.ensures, c.as_slice-span-items.ensures) (c.self.invariant.0.are, grind (arith, common_steps))

pub returns : goal.returns
returns c = rw (bytes_seen c.self.invariant.0 (same_edited c.self.view_is))
    (grind (arith, common_steps, append-nil, c.get-before.ensures, c.as_slice-span-items.ensures))
