use Rattle.lsp_edit.proofs.Prelude.{rest_is, ap, arith, drop-drop, length-drop, OldPart, NewPart, parts_of, part_of}
use Rattle.lsp_edit.proofs.Parts.PassedLemmas.{walk_new, walk_old}
use Rattle.lsp_edit.proofs.Parts.PassingLemmas.{rest_all}
use Rattle.lsp_edit.proofs.pieces.through.spans_through.Goals.{in-Old+in_ok-count-in-Old, in-New+in_ok-put-in-New}
use Rattle.lsp_edit.proofs.pieces.through.spans_through.Goals as goal

pub loop-span-preserved : goal.loop-span-preserved
loop-span-preserved c =
    elim c.match-span.branch [
      | in-Old+in_ok-count-in-Old w ↦
          let rest = rest_all c.args.first.now c.loop-span.begun in
          let made = rw rest at w.in_ok-count-in-Old.ensures.pushed in
          let passed = rw rest at w.in_ok-count-in-Old.ensures.passed in
          let within = rw rest at w.in_ok-count-in-Old.ensures.within in
          rw (w.out-is, w.begun-is, w.passed-is) (
            omega (arith, within, length-drop c.loop-span.begun c.args.first.now, c.loop-span.invariant.0),
            rw (← drop-drop w.in_ok-count-in-Old.count c.loop-span.begun c.args.first.now)
                (walk_old (parts_of c.args.first.now) (parts_of c.args.second.now) _ _ _ _ c.loop-span.invariant.1
                w.in-Old.from w.in-Old.to _
                (rest_is part_of c.args.second.now c.loop-span.span-index _ (OldPart w.in-Old.from w.in-Old.to)
                c.loop-span-test.true (ap part_of w.in-Old.is))
                _ _ _ made passed),
          )
      | in-New+in_ok-put-in-New w ↦
          rw (w.out-is, w.begun-is, w.passed-is, w.in_ok-put-in-New.ensures, w.in-New.is) (
            c.loop-span.invariant.0,
            walk_new (parts_of c.args.first.now) (parts_of c.args.second.now) _ _ _ _ c.loop-span.invariant.1
                w.in-New.field-0.now _
                (rest_is part_of c.args.second.now c.loop-span.span-index _ (NewPart w.in-New.field-0.now)
                c.loop-span-test.true (ap part_of w.in-New.is)),
          )
    ]
