use Rattle.std.proofs.Common.{◌≡◌, ◌∙◌, ℕ, ◌+◌, List, [], ◌∷◌, ◌++◌, Vec, Global, ap, subst, arith}
use Rattle.std.specs.Str.{chars}
use Rattle.lsp_text.specs.declared.position.Range.{Range}
use Rattle.lsp_text.specs.TextLines.{line_ends}
use Rattle.lsp_text.specs.Units.{units_in}
use Rattle.lsp_long_lines.proofs.LineEndLemmas.{ranges_before, ranges-long, ranges-short}
use Rattle.lsp_long_lines.proofs.long_lines.long_lines.Goals as goal
use Rattle.lsp_long_lines.proofs.long_lines.long_lines.Goals.{in-Some+in_ok-push, in_default}

pub overflow_cast-line-end : goal.overflow_cast-line-end
overflow_cast-line-end c = omega (arith, c.line_count-line-end.ensures.few)

pub excess-requires : goal.excess-requires
excess-requires c = omega (arith, c.line_count-line-end.ensures.count)

pub loop-line-preserved : goal.loop-line-preserved
loop-line-preserved c =
    elim c.match-excess.branch [
      | in-Some+in_ok-push w ↦
          let items : c.match-excess.ranges.items ≡ c.loop-line.ranges.items ++ w.in-Some.range ∷ [] =
          ap (λ (v : Vec Range Global). v.items) w.ranges-is ∙ w.in_ok-push.ensures.items in
          items ∙ ranges-long (units_in c.args.encoding) c.args.document.now.text c.text-text.result.now
          c.loop-line.line c.loop-line.ranges.items w.in-Some.range
          c.text-text.ensures.text w.in-Some.ensures.long w.in-Some.ensures.range c.loop-line.invariant
      | in_default w ↦
          let items : c.match-excess.ranges.items ≡ c.loop-line.ranges.items =
          ap (λ (v : Vec Range Global). v.items) w.ranges-is in
          items ∙ ranges-short (units_in c.args.encoding) c.args.document.now.text c.text-text.result.now
          c.loop-line.line c.loop-line.ranges.items
          c.text-text.ensures.text w.in_default.ensures.long c.loop-line.invariant
    ]

pub returns : goal.returns
returns c =
    let text = chars c.args.document.now.text in
    let all : c.loop-line.line ≡ line_ends text + 1 =
    omega (
      arith,
      c.line_count-line-end.ensures.count,
      ap (λ (b : List ℕ). line_ends (chars b)) c.text-text.ensures.text,
    ) in
    subst (λ (n : ℕ). c.loop-line.ranges.items ≡ ranges_before (units_in c.args.encoding) text n) all
    c.loop-line.invariant
