use Rattle.line_diff.proofs.Prelude.{◌≡◌, suc, true, drop, get_or, refl, sym, ◌∙◌, append_assoc, arith, map-append, ends_line, common_steps, nat_tests}
use Rattle.std.proofs.lemmas.Str.{IsCharBoundary-after_ascii, IsCharBoundary-start}
use Rattle.line_diff.proofs.LineLemmas.{cut_ended, cut_passed}
use Rattle.line_diff.proofs.lines.lines_of.Goals.{then-ends_line+in_ok-push, else-ends_line}
use Rattle.line_diff.proofs.lines.lines_of.Goals as goal

pub loop-index-init : goal.loop-index-init
loop-index-init c = record {
  order = omega arith;
  boundary = IsCharBoundary-start c.args.text.now c.utf8.text;
  cut = rw c.new-lines.ensures.items refl;
}

pub range-requires-clause-end_boundary : goal.range-requires-clause-end_boundary
range-requires-clause-end_boundary c =
    let same = c.as_bytes-bytes.ensures.value in
    let byte = get_or c.args.text.now c.loop-index.index 0 in
    let rest = drop (suc c.loop-index.index) c.args.text.now in
    let hit : ends_line byte rest ≡ true = rw same at (sym c.ends_line.ensures ∙ c.if-ends_line.true) in
    IsCharBoundary-after_ascii c.args.text.now c.loop-index.index c.utf8.text (rw same at c.loop-index-test.true)
    (grind (arith, nat_tests))

pub loop-index-preserved : goal.loop-index-preserved
loop-index-preserved c =
    let same = c.as_bytes-bytes.ensures.value in
    let within = rw same at c.loop-index-test.true in
    let held = c.loop-index.invariant in
    let text = c.args.text.now in
    let index = c.loop-index.index in
    let byte = get_or text index 0 in
    let rest = drop (suc index) text in
    elim c.if-ends_line.branch [
      | then-ends_line+in_ok-push w ↦
          let hit : ends_line byte rest ≡ true = rw same at (sym c.ends_line.ensures ∙ w.if-ends_line.true) in
          rw (w.start-is, w.lines-is) (record {
            order = omega arith;
            boundary = IsCharBoundary-after_ascii text index c.utf8.text within (grind (arith, nat_tests));
            cut = grind (arith, common_steps, map-append, append_assoc, cut_ended);
          })
      | else-ends_line w ↦
          grind (arith, common_steps, cut_passed)
    ]
