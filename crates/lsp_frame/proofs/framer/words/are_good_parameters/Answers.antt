use Rattle.lsp_frame.proofs.WordLemmas.{bad_part, good_part, last_part, rest_shorter}
use Rattle.lsp_frame.proofs.framer.words.are_good_parameters.Goals as goal

pub returns-then-not-is_good_parameter : goal.returns-then-not-is_good_parameter
returns-then-not-is_good_parameter c =
    bad_part c.loop-at.rest.now c.in-Some.at c.is_good_parameter.result c.in-Some.ensures c.is_good_parameter.ensures
    c.if-not-is_good_parameter.true _ c.loop-at.invariant.all

pub loop-at-preserved : goal.loop-at-preserved
loop-at-preserved c = record {
  short = rest_shorter c.loop-at.rest.now c.in-Some.at _ c.loop-at.invariant.short;
  all = good_part c.loop-at.rest.now c.in-Some.at c.is_good_parameter.result c.in-Some.ensures
      c.is_good_parameter.ensures c.if-not-is_good_parameter.false _ c.loop-at.invariant.all;
}

pub returns : goal.returns
returns c = last_part c.loop-at.rest.now c.is_good_parameter-2.result c.in_default.ensures c.is_good_parameter-2.ensures
    _ c.loop-at.invariant.all
