use Rattle.lsp_edit.proofs.Prelude.{sym, subst, units_in, content_change, edited_text, Applied, AreEndsIn, PiecesData}
use Rattle.lsp_edit.proofs.pieces.Pieces.apply.Goals as goal

pub put_change-requires-clause-ends : goal.put_change-requires-clause-ends
put_change-requires-clause-ends c = (
  units_in c.args.encoding,
  subst (λ (p : PiecesData). AreEndsIn (units_in c.args.encoding) (edited_text p.edited)
      (content_change c.args.change.now) c.in_ok-ends.ends) (sym c.in_ok-ends.ensures.unchanged)
      c.in_ok-ends.ensures.found,
)

pub returns-clause-applied : goal.returns-clause-applied
returns-clause-applied c =
    subst (λ (p : PiecesData). Applied (units_in c.args.encoding) p.edited (content_change c.args.change.now)
    c.put_change.new.self.edited) c.in_ok-ends.ensures.unchanged
    (c.in_ok-put_change.ensures.applied (units_in c.args.encoding)
    (subst (λ (p : PiecesData). AreEndsIn (units_in c.args.encoding) (edited_text p.edited)
    (content_change c.args.change.now) c.in_ok-ends.ends) (sym c.in_ok-ends.ensures.unchanged)
    c.in_ok-ends.ensures.found))
