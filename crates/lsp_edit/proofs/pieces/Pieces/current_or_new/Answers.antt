use Rattle.lsp_edit.proofs.Prelude.{ap, arith, length, same_edited}
use Rattle.lsp_edit.proofs.Composing.EditedLemmas.{bytes_seen}
use Rattle.lsp_edit.proofs.pieces.Pieces.current_or_new.Goals as goal

pub new-requires : goal.new-requires
new-requires c = omega (
  arith,
  c.in_ok-text-in-None.field-0.bytes.ok.0,
  ap length c.in_ok-text-in-None.ensures,
  ap length (bytes_seen c.self.invariant.0 (same_edited c.self.view_is)),
  c.self.invariant.0.long,
  c.self.invariant.0.room,
)
