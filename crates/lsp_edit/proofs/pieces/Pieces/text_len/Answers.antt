use Rattle.lsp_edit.proofs.Prelude.{ap, length, same_edited, sym, ◌∙◌}
use Rattle.lsp_edit.proofs.Composing.EditedLemmas.{bytes_seen}
use Rattle.lsp_edit.proofs.pieces.Pieces.text_len.Goals as goal

pub returns : goal.returns
returns c =
    c.self.invariant.0.long ∙ sym (ap length (bytes_seen c.self.invariant.0 (same_edited c.self.view_is)))
