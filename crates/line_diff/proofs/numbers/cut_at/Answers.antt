use Rattle.line_diff.proofs.Prelude.{arith, ◌∙◌}
use Rattle.line_diff.proofs.RepeatLemmas.{same_length, turned}
use Rattle.line_diff.proofs.numbers.cut_at.Goals as goal

pub on-preserved : goal.on-preserved
on-preserved c = record {
  whole =
      turned c.shift-in-on.new.from c.shift-in-on.new.to c.on.after c.on.before c.in_ok-shift-2.ensures.whole
      ∙ c.on.invariant.whole;
  most =
      omega (
        arith,
        c.in_ok-shift-2.ensures.most,
        same_length c.shift-in-on.new.from c.shift-in-on.new.to c.on.after c.on.before c.in_ok-shift-2.ensures.whole,
      );
}

pub returns-in_err-shift-2-clause-whole : goal.returns-in_err-shift-2-clause-whole
returns-in_err-shift-2-clause-whole c =
    turned c.shift-in-on.new.from c.shift-in-on.new.to c.on.after c.on.before c.in_err-shift-2.ensures.whole
    ∙ c.on.invariant.whole

pub returns-after-on-clause-len : goal.returns-after-on-clause-len
returns-after-on-clause-len c =
    omega (arith, same_length c.on.before c.on.after c.args.before.now c.args.after.now c.on.invariant.whole)
