use Rattle.line_diff.proofs.Prelude.{suc, drop, arith, length-drop}
use Rattle.line_diff.proofs.RepeatLemmas.{moved}
use Rattle.line_diff.proofs.repeats.shift.Goals as goal

pub returns : goal.returns
returns c = record {
  whole =
      rw (c.remove.ensures, c.in_ok-add.ensures.added)
      (moved c.in-Some.first c.up_to-count.result c.args.from.now
      (drop (suc c.in-Some.first.more) c.args.from.now) c.args.to.now c.in-Some.ensures c.up_to-count.ensures.all);
  most = rw (c.remove.ensures, length-drop) (omega arith);
  some = rw (c.remove.ensures, length-drop) (omega arith);
}
