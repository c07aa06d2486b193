use Rattle.lsp_edit.proofs.Prelude.{arith, refl, split_parts}
use Rattle.lsp_edit.proofs.Parts.SplitLemmas.{cut_at, first_ordered, last_ordered, moved_inside, moved_past, moved_to}
use Rattle.lsp_edit.proofs.pieces.split.SplitSpans.move_to.Goals as goal

pub len-requires : goal.len-requires
len-requires c = last_ordered c.back.self (split_parts c.args.self.now) c.back.invariant c.requires.some
    c.pop.new.self.items c.in-Some.span c.in-Some.ensures.items

pub returns-in_default-pop : goal.returns-in_default-pop
returns-in_default-pop c =
    moved_past c.on.self (split_parts c.args.self.now) c.args.offset c.on.invariant.passed c.requires.some
    c.on.invariant.low (record { front = c.on.self.front; back = c.pop-in-on.new.self; passed = c.on.self.passed })
    c.in_default-pop.ensures.items (omega (arith, c.in_default-pop.ensures.cases.0, c.on.self.back.ok.0)) refl refl

pub len-len-requires : goal.len-len-requires
len-len-requires c = first_ordered c.on.self (split_parts c.args.self.now) c.on.invariant.passed c.requires.some
    c.pop-in-on.new.self.items c.in-Some-pop.span c.in-Some-pop.ensures.items

pub front-requires : goal.front-requires
front-requires c =
    cut_at c.on.self (split_parts c.args.self.now) c.on.invariant.passed c.requires.some c.pop-in-on.new.self.items
    c.in-Some-pop.span c.in-Some-pop.ensures.items c.args.offset c.on-test.true
    (omega (arith, c.if-left-len.true, c.len-len.ensures)) c.requires.cut

pub back-requires : goal.back-requires
back-requires c =
    cut_at c.on.self (split_parts c.args.self.now) c.on.invariant.passed c.requires.some c.pop-in-on.new.self.items
    c.in-Some-pop.span c.in-Some-pop.ensures.items c.args.offset c.on-test.true
    (omega (arith, c.if-left-len.true, c.len-len.ensures)) c.requires.cut

pub returns-then-left-len : goal.returns-then-left-len
returns-then-left-len c =
    moved_inside c.on.self (split_parts c.args.self.now) c.on.invariant.passed c.requires.some
    c.pop-in-on.new.self.items c.in-Some-pop.span c.in-Some-pop.ensures.items c.args.offset c.on-test.true
    (omega (arith, c.if-left-len.true, c.len-len.ensures)) c.requires.cut
    (record {
      front = c.push-then-left-len.new.self;
      back = c.push-then-left-len-2.new.self;
      passed = c.args.offset;
    })
    c.front.result c.back-then-left-len.result c.front.ensures c.back-then-left-len.ensures
    c.in_ok-push-2.ensures.items c.in_ok-push-3.ensures.items refl

pub returns : goal.returns
returns c = moved_to c.on.self (split_parts c.args.self.now) c.args.offset c.on.invariant.passed c.requires.some
    c.on.invariant.low c.on-test.false
