use Rattle.lsp_buffer.proofs.Prelude.{ℕ, ◌≡◌, ◌-◌, take, drop, sym, ap, ◌∙◌, arith, concat, counts_of}
use Rattle.lsp_buffer.proofs.Queries.FoundLemmas.{tail_heads, tail_more, tail_room, whole_room, whole_sum}
use Rattle.lsp_buffer.proofs.find.before_of.Goals.{then-loop-from-test+else-tail-eq0, else-loop-from-test}
use Rattle.lsp_buffer.proofs.find.before_of.Goals as goal

pub loop-from-init : goal.loop-from-init
loop-from-init c =
    let e : 0 ≡ c.args.passed.index - c.args.passed.index = omega arith in
    record {
      low = c.requires.order;
      high = omega arith;
      tail_is = c.none-tail.ensures
          ∙ ap (λ (n : ℕ). counts_of (concat (take n (drop c.args.passed.index c.args.blocks.now)))) e;
    }

pub plus-tail-requires : goal.plus-tail-requires
plus-tail-requires c =
    tail_room c.args.blocks.now c.requires.are c.requires.size (c.loop-from.from - 1) c.loop-from.from
    c.args.passed.index (omega arith) c.loop-from.invariant.high c.requires.passed.within c.index-blocks-from.result
    c.counts.result c.loop-from.tail c.index-blocks-from.is c.counts.ensures c.loop-from.invariant.tail_is

pub loop-from-preserved : goal.loop-from-preserved
loop-from-preserved c = record {
  low = omega arith;
  high = omega (arith, c.loop-from.invariant.high);
  tail_is =
      tail_more c.args.blocks.now c.requires.are c.requires.size (c.loop-from.from - 1) c.loop-from.from
      c.args.passed.index (omega arith) c.loop-from.invariant.high c.requires.passed.within c.index-blocks-from.result
      c.counts.result c.loop-from.tail c.index-blocks-from.is c.counts.ensures c.loop-from.invariant.tail_is
      c.plus-tail.result c.plus-tail.ensures;
}

pub plus-requires : goal.plus-requires
plus-requires c =
    let same : c.loop-from.from ≡ c.args.first.index
    = elim c.loop-from-test.branch [
      | then-loop-from-test+else-tail-eq0 w ↦ absurd (w.if-tail-eq0.false c.if-tail-eq0-2.true)
      | else-loop-from-test w ↦ omega (arith, w.loop-from-test.false, c.loop-from.invariant.low)
    ] in
    whole_room c.args.blocks.now c.requires.are c.loop-from.from c.args.passed.index c.loop-from.invariant.high
    c.requires.passed.within c.loop-from.tail c.loop-from.invariant.tail_is c.args.first.before
    (c.requires.first.before ∙ ap (λ (n : ℕ). counts_of (concat (take n c.args.blocks.now))) (sym same)) c.requires.size

pub returns-then-tail-eq0-2 : goal.returns-then-tail-eq0-2
returns-then-tail-eq0-2 c =
    let same : c.loop-from.from ≡ c.args.first.index
    = elim c.loop-from-test.branch [
      | then-loop-from-test+else-tail-eq0 w ↦ absurd (w.if-tail-eq0.false c.if-tail-eq0-2.true)
      | else-loop-from-test w ↦ omega (arith, w.loop-from-test.false, c.loop-from.invariant.low)
    ] in
    whole_sum c.args.blocks.now c.requires.are c.loop-from.from c.args.passed.index c.loop-from.invariant.high
    c.requires.passed.within c.loop-from.tail c.loop-from.invariant.tail_is c.args.first.before
    (c.requires.first.before ∙ ap (λ (n : ℕ). counts_of (concat (take n c.args.blocks.now))) (sym same)) c.plus.result
    c.plus.ensures

pub returns : goal.returns
returns c =
    tail_heads c.args.blocks.now c.requires.are c.loop-from.from c.args.passed.index c.loop-from.invariant.high
    c.requires.passed.within c.loop-from.tail c.loop-from.invariant.tail_is c.if-tail-eq0-2.false c.args.target
    c.args.passed.len c.args.passed.ends c.requires.passed
