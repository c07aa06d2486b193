use Rattle.std.proofs.Common.{◌≡◌, ◌∙◌, ℕ, ◌-◌, ◌<◌, refl, sym, ap, arith}
use Rattle.std.specs.Str.{chars}
use Rattle.lsp_text.specs.Positions.{exact_position}
use Rattle.lsp_text.specs.Units.{units_in}
use Rattle.lsp_long_lines.specs.LongLines.{last_within}
use Rattle.lsp_long_lines.proofs.LimitLemmas.{units_some, missed, found, walk_starts, walk_not_at_start, walk_on, walk_ends}
use Rattle.lsp_long_lines.proofs.LineEndLemmas.{is_long-false, is_long-true}
use Rattle.lsp_long_lines.proofs.long_lines.excess.Goals as goal

pub returns-then-stop-le-LIMIT-clause-long : goal.returns-then-stop-le-LIMIT-clause-long
returns-then-stop-le-LIMIT-clause-long c =
    is_long-false (units_in c.args.encoding) (chars c.args.text.now) c.args.line c.end_of_line-stop.result c.requires
    c.end_of_line-stop.ensures (omega arith)

pub returns-clause-long : goal.returns-clause-long
returns-clause-long c =
    is_long-true (units_in c.args.encoding) (chars c.args.text.now) c.args.line c.end_of_line-stop.result c.requires
    c.end_of_line-stop.ensures (omega arith)

pub loop-encoding-init : goal.loop-encoding-init
loop-encoding-init c = record {
  line = refl;
  walked = walk_starts (units_in c.args.encoding) (chars c.args.text.now) c.args.line c.end_of_line-stop.result
      c.requires c.end_of_line-stop.ensures c.if-stop-le-LIMIT.false;
}

pub overflow_sub-start : goal.overflow_sub-start
overflow_sub-start c =
    walk_not_at_start (units_in c.args.encoding) (units_some c.args.encoding) (chars c.args.text.now)
    c.loop-encoding.start
    (missed (chars c.args.text.now) c.resolve.result _ c.resolve.ensures.value (sym c.is_err.ensures.value
    ∙ c.loop-encoding-test.true))
    c.loop-encoding.invariant.walked

pub loop-encoding-preserved : goal.loop-encoding-preserved
loop-encoding-preserved c = record {
  line = c.loop-encoding.invariant.line;
  walked = walk_on (units_in c.args.encoding) (units_some c.args.encoding) (chars c.args.text.now)
      c.loop-encoding.start
      (missed (chars c.args.text.now) c.resolve.result _ c.resolve.ensures.value (sym c.is_err.ensures.value
      ∙ c.loop-encoding-test.true))
      c.loop-encoding.invariant.walked;
}

pub loop-encoding-smaller : goal.loop-encoding-smaller
loop-encoding-smaller c =
    let some = walk_not_at_start (units_in c.args.encoding) (units_some c.args.encoding) (chars c.args.text.now)
    c.loop-encoding.start
    (missed (chars c.args.text.now) c.resolve.result _ c.resolve.ensures.value (sym c.is_err.ensures.value
    ∙ c.loop-encoding-test.true))
    c.loop-encoding.invariant.walked in
    let less : c.loop-encoding.start.character - 1 < c.loop-encoding.start.character = omega (arith, some) in
    less

pub returns-clause-range : goal.returns-clause-range
returns-clause-range c =
    let units = units_in c.args.encoding in
    let text = chars c.args.text.now in
    let index = found text c.resolve.result _ c.resolve.ensures.value (sym c.is_err.ensures.value
    ∙ c.loop-encoding-test.false) in
    let start : c.loop-encoding.start ≡ exact_position units text (last_within units text c.args.line) =
    walk_ends units (units_some c.args.encoding) text c.loop-encoding.start index.0 index.1
    c.loop-encoding.invariant.walked
    ∙ ap (λ (n : ℕ). exact_position units text (last_within units text n)) c.loop-encoding.invariant.line in
    λ i. record { start = start i; stop = c.end_of_line-stop.ensures i }
