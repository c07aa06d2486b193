use Rattle.lsp_edit.proofs.Prelude.{List, ◌-◌, ◌++◌, sym, ap, ap₂, ◌∙◌, subst, Part, new_parts, back_parts, AreCut}
use Rattle.lsp_edit.proofs.Parts.SplitLemmas.{pushed_new}
use Rattle.lsp_edit.proofs.pieces.split.SplitSpans.replace.Goals as goal

pub remove_front-requires : goal.remove_front-requires
remove_front-requires c = subst (λ (ps : List Part). AreCut ps (c.args.stop - c.args.start))
    (sym c.in_ok-move_to.ensures.back_is) c.requires.at_stop

pub returns : goal.returns
returns c = record {
  parts_are =
      ap₂ (λ (x y : List Part). x ++ y) c.in_ok-move_to.ensures.front_is
      (pushed_new c.push_new.new.spans.items c.remove_front.new.back.items c.args.text.now c.in_ok-push_new.ensures
      ∙ ap (λ (ps : List Part). new_parts c.args.text.now ++ ps) (c.in_ok-remove_front.ensures
      ∙ ap (λ (ps : List Part). back_parts ps (c.args.stop - c.args.start)) c.in_ok-move_to.ensures.back_is));
  passed_is = c.in_ok-move_to.ensures.passed_is;
}
