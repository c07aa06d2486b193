use Rattle.lsp_edit.proofs.Prelude.{same_edited, ℕ, List, arith, sym, ap, ◌∙◌, replace_range, Part, parts_of, bytes_of, IsCurrent, text_before}
use Rattle.lsp_edit.proofs.Composing.AppliedLemmas.{current_is, ranged, next_told, next_holds}
use Rattle.lsp_edit.proofs.pieces.Pieces.put.Goals.{in-None, in-Some+in_ok-replace_range-in-Some}
use Rattle.lsp_edit.proofs.pieces.Pieces.put.Goals as goal

pub overflow_sub-self : goal.overflow_sub-self
overflow_sub-self c = (ranged c.self.invariant.0 c.self.view_is c.args.text.now c.utf8.text c.requires.room c.requires.ends).order

pub overflow_sub-self-2 : goal.overflow_sub-self-2
overflow_sub-self-2 c =
    let r = ranged c.self.invariant.0 c.self.view_is c.args.text.now c.utf8.text c.requires.room c.requires.ends in
    omega (arith, r.within)

pub replace_range-requires : goal.replace_range-requires
replace_range-requires c =
    let r = ranged c.self.invariant.0 c.self.view_is c.args.text.now c.utf8.text c.requires.room c.requires.ends in
    let is = current_is _ _ _ c.self.invariant.1 (sym c.take.ensures.value ∙ c.in-Some.is) in record {
      order = r.order;
      at_start = r.start_at c.in-Some.current is;
      at_end = r.stop_at c.in-Some.current is;
      room = r.short c.in-Some.current is;
    }

pub replace-requires : goal.replace-requires
replace-requires c =
    let r = ranged c.self.invariant.0 c.self.view_is c.args.text.now c.utf8.text c.requires.room c.requires.ends in
    record { at_start = r.start_cut; at_stop = r.stop_cut; order = r.order; ordered = r.ordered }

pub invariant_of-self-2 : goal.invariant_of-self-2
invariant_of-self-2 c =
    let r = ranged c.self.invariant.0 c.self.view_is c.args.text.now c.utf8.text c.requires.room c.requires.ends in
    let made = c.in_ok-replace.ensures.ok in
    let current : IsCurrent (bytes_of (text_before c.self.inside.before) (parts_of c.replace.new.self))
    c.match-take.current
    = elim c.match-take.branch [
      | in-None w ↦ rw w.current-is tt
      | in-Some+in_ok-replace_range-in-Some w ↦
          rw w.current-is
          (w.in_ok-replace_range-in-Some.ensures.changed
          ∙ (ap (λ (bytes : List ℕ). replace_range bytes c.args.start c.args.stop c.args.text.now)
          (current_is _ _ _ c.self.invariant.1 (sym c.take.ensures.value ∙ w.in-Some.is))
          ∙ (sym r.bytes ∙ ap (λ (parts : List Part). bytes_of (text_before c.self.inside.before) parts) (sym made))))
    ] in (
      next_holds c.requires.ends.units _ _ _ _ _ _
          (r.next c.replace.new.self made (omega (arith, c.in_ok-replace.ensures.few))) _ made _
          c.saturating_add-self-inside.ensures,
      current,
    )

pub returns-clause-applied : goal.returns-clause-applied
returns-clause-applied c = λ units range found.
    let r = ranged {start = c.args.start} {stop = c.args.stop} c.self.invariant.0 c.self.view_is c.args.text.now
    c.utf8.text c.requires.room (record { units = units; range = range; ends = found }) in
    let made = c.in_ok-replace.ensures.ok in
    next_told units _ _ _ _ _ _
    (r.next c.replace.new.self made (omega (arith, c.in_ok-replace.ensures.few))) c.args.self.now.edited
    (same_edited c.self.view_is) _ made _ c.saturating_add-self-inside.ensures
