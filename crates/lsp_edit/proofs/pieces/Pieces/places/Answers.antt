use Rattle.lsp_edit.proofs.Prelude.{ℕ, List, subst, IsCurrent, edited_bytes, ap, sym, ◌∙◌, chars, units_in, content_change, edited_text, PlainData, same_edited, text_before}
use Rattle.lsp_edit.proofs.Composing.AppliedLemmas.{places_seen, places_told}
use Rattle.lsp_edit.proofs.Composing.EditedLemmas.{edited_chars, fresh_chars, now_bytes}
use Rattle.lsp_edit.proofs.pieces.Pieces.places.Goals as goal

pub returns-then-self-eq0-clause-found : goal.returns-then-self-eq0-clause-found
returns-then-self-eq0-clause-found c =
    places_told (units_in c.args.encoding) (content_change c.args.change.now) c.in-Some.range _ c.args.self.now.edited
    (chars (text_before c.self.inside.before)) 0 c.in-Some.is
    (sym (ap (λ (e : PlainData). e.changes) (same_edited c.self.view_is)) ∙ c.if-self-eq0.true)
    (sym (ap edited_text (same_edited c.self.view_is))
    ∙ sym (fresh_chars _ _ _ _ c.self.invariant.0 c.if-self-eq0.true))
    (places_seen (units_in c.args.encoding) 0 c.in-Some.range _ _ _ c.get.ensures c.ends.ensures)

pub current_or_new-requires : goal.current_or_new-requires
current_or_new-requires c =
    subst (λ (bytes : List ℕ). IsCurrent bytes c.take-current.result) (sym (now_bytes _ _ _ _ c.self.invariant.0))
    (rw c.take-current.ensures.value c.self.invariant.1)

pub invariant_of-self-2 : goal.invariant_of-self-2
invariant_of-self-2 c =
    (c.self.invariant.0, c.in_ok-current.ensures ∙ now_bytes _ _ _ _ c.self.invariant.0)

pub returns-clause-found : goal.returns-clause-found
returns-clause-found c =
    places_told (units_in c.args.encoding) (content_change c.args.change.now) c.in-Some.range _ c.args.self.now.edited
    (chars c.in_ok-current.current) c.self.inside.changes c.in-Some.is
    (sym (ap (λ (e : PlainData). e.changes) (same_edited c.self.view_is)))
    (sym (edited_chars c.args.self.now.edited c.in_ok-current.current c.len.ensures.utf8
    (c.in_ok-current.ensures ∙ ap edited_bytes (same_edited c.self.view_is))))
    c.ends-places.ensures
