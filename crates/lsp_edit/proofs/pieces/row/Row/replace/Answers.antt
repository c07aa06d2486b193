use Rattle.lsp_edit.proofs.Prelude.{ℕ, ◌++◌, ◌+◌, take, drop, ap, ◌∙◌, arith, common_steps}
use Rattle.lsp_edit.proofs.Parts.PassingLemmas.{rest_all, drop_ordered}
use Rattle.lsp_edit.proofs.Parts.SpansLemmas.{drained_is, replaced_spans}
use Rattle.lsp_edit.proofs.pieces.row.Row.replace.Goals as goal

pub passed_by-last-requires-clause-ordered : goal.passed_by-last-requires-clause-ordered
passed_by-last-requires-clause-ordered c =
    grind (arith, common_steps, rest_all, drop_ordered, c.deref-2.ensures.value, c.requires.ordered)

pub returns-clause-ok : goal.returns-clause-ok
returns-clause-ok c =
    let gave = c.in_ok-splice.ensures.items in
    let ended = rw c.deref.ensures.value at c.ended_by-first.ensures.passed in
    let front = rw c.deref.ensures.value at c.ended_by-first.ensures.front in
    let passed = rw (c.deref-2.ensures.value, rest_all c.self.inside.spans.items c.ended_by-first.result.0) at
    c.passed_by-last.ensures.passed in
    let rest_after = rw (c.deref-2.ensures.value, rest_all c.self.inside.spans.items c.ended_by-first.result.0) at
    c.passed_by-last.ensures.rest_after in
    let made = rw (c.deref-2.ensures.value, rest_all c.self.inside.spans.items c.ended_by-first.result.0) at
    c.in_ok-new.ensures in
    let least = rw (c.deref-2.ensures.value, rest_all c.self.inside.spans.items c.ended_by-first.result.0) at
    c.min.ensures in
    rw (← c.self.view_is)
    (replaced_spans c.self.inside.spans.items c.splice.new.self.items c.in_ok-new.new.items c.ended_by-first.result.0
    c.passed_by-last.result.0 c.ended_by-first.result.1 c.passed_by-last.result.1 c.args.start c.args.stop _
    c.args.text.now
    c.requires.order
    (gave.4 ∙ ap (λ xs. take c.ended_by-first.result.0 c.self.inside.spans.items
    ++ (xs ++ drop (c.ended_by-first.result.0 + c.min.result) c.self.inside.spans.items))
    (drained_is gave.0 gave.1 c.in_ok-new.new.items gave.2.0 (gave.2.1 ∙ c.in_ok-new.new.ok.0) gave.3))
    (ap (λ (n : ℕ). c.ended_by-first.result.0 + n) least)
    ended
    front
    c.ended_by-first.ensures.first
    passed
    rest_after
    made)
