use Rattle.lsp_edit.proofs.Prelude.{Some, None, subst, ContentChange, Applied}
use Rattle.lsp_edit.proofs.Composing.AppliedLemmas.{edit_is}
use Rattle.lsp_edit.proofs.pieces.Pieces.put_change.Goals as goal

pub put-requires-clause-ends : goal.put-requires-clause-ends
put-requires-clause-ends c = record {
  units = c.requires.ends.0;
  range = c.in-Some.field-0;
  ends = c.requires.ends.1 c.in-Some.field-0 c.in-Some.is;
}

pub returns-in_ok-put-in-Some-clause-applied : goal.returns-in_ok-put-in-Some-clause-applied
returns-in_ok-put-in-Some-clause-applied c = λ units are.
    subst (λ (change : ContentChange). Applied units c.args.self.now.edited change c.put.new.self.edited)
    (edit_is c.args.change.now (Some c.in-Some.field-0) _ c.in-Some.is c.deref-in-Some.ensures)
    (c.in_ok-put-in-Some.ensures.applied units c.in-Some.field-0 (are c.in-Some.field-0 c.in-Some.is))

pub returns-in_ok-apply_to_all-in-None-clause-applied : goal.returns-in_ok-apply_to_all-in-None-clause-applied
returns-in_ok-apply_to_all-in-None-clause-applied c = λ units are.
    subst (λ (change : ContentChange). Applied units c.args.self.now.edited change c.apply_to_all.new.self.edited)
    (edit_is c.args.change.now None _ c.in-None.is c.deref.ensures)
    (c.in_ok-apply_to_all-in-None.ensures.applied units)
