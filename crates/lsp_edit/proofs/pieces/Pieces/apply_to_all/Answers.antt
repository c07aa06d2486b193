use Rattle.lsp_edit.proofs.Prelude.{arith, same_edited}
use Rattle.lsp_edit.proofs.Composing.AppliedLemmas.{all_next, next_holds, next_told, room_told}
use Rattle.lsp_edit.proofs.Parts.PutLemmas.{new_few}
use Rattle.lsp_edit.proofs.pieces.Pieces.apply_to_all.Goals as goal

pub invariant_of-self-2 : goal.invariant_of-self-2
invariant_of-self-2 c =
    let next = all_next (λ x. 1) _ _ _ _ c.self.invariant.0 c.args.text.now c.utf8.text
    (room_told _ _ _ _ _ c.args.self.now.edited c.self.invariant.0 (same_edited c.self.view_is) c.requires)
    (omega (arith, new_few c.args.text.now)) in
    (next_holds (λ x. 1) _ _ _ _ _ _ next _ c.in_ok-replace_all.ensures.ok _ c.saturating_add-self-inside.ensures, tt)

pub returns-clause-applied : goal.returns-clause-applied
returns-clause-applied c = λ units.
    next_told units _ _ _ _ _ _
    (all_next units _ _ _ _ c.self.invariant.0 c.args.text.now c.utf8.text
    (room_told _ _ _ _ _ c.args.self.now.edited c.self.invariant.0 (same_edited c.self.view_is) c.requires)
    (omega (arith, new_few c.args.text.now)))
    c.args.self.now.edited (same_edited c.self.view_is) _ c.in_ok-replace_all.ensures.ok _
    c.saturating_add-self-inside.ensures
