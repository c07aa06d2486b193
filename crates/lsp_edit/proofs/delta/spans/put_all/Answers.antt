use Rattle.lsp_edit.proofs.Prelude.{IfOk-weaker, drop_all, next_is, refl, split_parts}
use Rattle.lsp_edit.proofs.Deltas.PuttingLemmas.{may_be_put, putting_begins, putting_bounds, putting_done, putting_range, putting_whole}
use Rattle.lsp_edit.proofs.delta.spans.put_all.Goals.{in-None+in_ok-replace_all-in-None, in-Some+in_ok-replace-in-Some}
use Rattle.lsp_edit.proofs.delta.spans.put_all.Goals as goal

pub loop-index-init : goal.loop-index-init
loop-index-init c = record {
  passed = record { parts_are = refl; passed_is = c.in_ok-split.ensures.passed_is };
  puts = λ units before r. putting_begins units before c.args.len c.args.changes.now c.args.ends.now
      (split_parts c.in_ok-split.split) r c.in_ok-split.ensures.parts_are;
}

pub loop-index-preserved : goal.loop-index-preserved
loop-index-preserved c =
    let next = next_is c.args.changes.now c.loop-index.index c.index-changes-index.result c.loop-index-test.true
    c.index-changes-index.is in
    elim c.match-change.branch [
      | in-None+in_ok-replace_all-in-None w ↦ rw w.split-is (record {
        passed = record { parts_are = refl; passed_is = w.in_ok-replace_all-in-None.ensures.passed_is };
        puts = λ units before r. putting_whole units before _ c.index-changes-index.result _ _ c.args.ends.now
            c.loop-index.index (split_parts c.loop-index.split) next (c.loop-index.invariant.puts units before r)
            w.in-None.is _ _ w.in_ok-replace_all-in-None.ensures.parts_are w.deref.ensures;
      })
      | in-Some+in_ok-replace-in-Some w ↦ rw w.split-is (record {
        passed = record { parts_are = refl; passed_is = w.in_ok-replace-in-Some.ensures.passed_is };
        puts = λ units before r. putting_range units before _ c.index-changes-index.result _ _ c.args.ends.now
            c.loop-index.index (split_parts c.loop-index.split) next (c.loop-index.invariant.puts units before r)
            w.in-Some.field-0 w.in-Some.is _ _ w.in_ok-replace-in-Some.ensures.parts_are w.deref-in-Some.ensures;
      })
    ]

pub bounds-ends-index : goal.bounds-ends-index
bounds-ends-index c = putting_bounds c.requires.0 c.requires.1 _ c.index-changes-index.result _ _ c.args.ends.now
    c.loop-index.index (split_parts c.loop-index.split) (next_is c.args.changes.now c.loop-index.index
    c.index-changes-index.result c.loop-index-test.true c.index-changes-index.is)
    (c.loop-index.invariant.puts c.requires.0 c.requires.1 c.requires.2)

pub replace-requires : goal.replace-requires
replace-requires c =
    let may = may_be_put c.requires.0 c.requires.1 _ c.index-changes-index.result _ _ c.args.ends.now c.loop-index.index
    (split_parts c.loop-index.split) (next_is c.args.changes.now c.loop-index.index c.index-changes-index.result
    c.loop-index-test.true c.index-changes-index.is)
    (c.loop-index.invariant.puts c.requires.0 c.requires.1 c.requires.2) c.in-Some.field-0 c.in-Some.is in
    record {
      passed = c.loop-index.invariant.passed;
      some = may.some;
      order = may.order;
      at_start = may.at_start;
      at_stop = may.at_stop;
    }

pub returns : goal.returns
returns c = IfOk-weaker c.close.result _ _ (λ spans same units before r. rw same
    (putting_done units before _ _ _ (split_parts c.loop-index.split)
    (drop_all c.loop-index.index c.args.changes.now c.loop-index-test.false)
    (c.loop-index.invariant.puts units before r))) c.close.ensures
