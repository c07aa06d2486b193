use Rattle.line_diff.proofs.Prelude.{◌≡◌, ◌-◌, List, [], ◌∷◌, arith, ap, sym, refl, ◌∙◌, take}
use Rattle.std.proofs.lemmas.List.{take_at}
use Rattle.line_diff.specs.declared.repeats.Repeat.{Repeat}
use Rattle.line_diff.proofs.RepeatLemmas.{removed_all, removed_set}
use Rattle.line_diff.proofs.repeats.remove_last.Goals as goal

pub returns-then-more-left : goal.returns-then-more-left
returns-then-more-left c =
    let kept : Repeat = record {
      number = c.in-Some.last.now.number;
      more = c.in-Some.last.now.more - c.loop-left.left;
    } in
    removed_set c.loop-left.repeats.items c.in-Some._rest.now c.in-Some.last.now
    (sym c.deref.ensures.value ∙ c.in-Some.ensures.cases.0) c.loop-left.left (c.len-index.result - 1) kept (omega arith)
    (omega (arith, c.in-Some.ensures.cases.1)) refl refl
    ∙ c.loop-left.invariant

pub loop-left-preserved : goal.loop-left-preserved
loop-left-preserved c =
    let is = sym c.deref.ensures.value ∙ c.in-Some.ensures.cases.0 in
    let kept : c.truncate.new.self.items ≡ c.in-Some._rest.now =
    c.truncate.ensures.items ∙ (ap (λ (rs : List Repeat). take (c.len-index.result - 1) rs) is
    ∙ take_at c.in-Some._rest.now (c.in-Some.last.now ∷ []) (c.len-index.result - 1)
    (omega (arith, c.in-Some.ensures.cases.1))) in
    rw kept
    (removed_all c.loop-left.repeats.items c.in-Some._rest.now c.in-Some.last.now is c.loop-left.left (omega arith)
    ∙ c.loop-left.invariant)
