use Rattle.lsp_edit.proofs.Prelude.{same_edited, List, ℕ, ap, sym, ◌∙◌, subst, IsUtf8-from_is_utf8, encodes-chars, before_bytes, AreParts, parts_of, text_before}
use Rattle.lsp_edit.proofs.Batches.LawLemmas.{none_empty}
use Rattle.lsp_edit.proofs.Composing.ThenLemmas.{pieces_kept}
use Rattle.lsp_edit.proofs.Parts.ThroughLemmas.{kept_order}
use Rattle.lsp_edit.proofs.pieces.Pieces.spans.Goals as goal

pub returns-clause-are : goal.returns-clause-are
returns-clause-are c =
    rw c.as_slice.ensures
    (subst (λ (bytes : List ℕ). AreParts bytes (parts_of c.self.inside.spans))
    (sym (encodes-chars (text_before c.self.inside.before)
    (IsUtf8-from_is_utf8 (text_before c.self.inside.before) c.self.invariant.0.utf8))
    ∙ ap before_bytes (same_edited c.self.view_is)) c.self.invariant.0.are)

pub returns-clause-order : goal.returns-clause-order
returns-clause-order c = rw c.as_slice.ensures (kept_order (pieces_kept c.self.invariant.0))

pub returns-clause-some : goal.returns-clause-some
returns-clause-some c = rw c.as_slice.ensures (none_empty _ _ c.self.invariant.0.are)
