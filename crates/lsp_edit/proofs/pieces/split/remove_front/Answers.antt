use Rattle.lsp_edit.proofs.Prelude.{arith}
use Rattle.lsp_edit.proofs.Parts.SplitLemmas.{here_cut, removed_inside, removed_none, removed_whole}
use Rattle.lsp_edit.proofs.pieces.split.remove_front.Goals as goal

pub len-len-requires : goal.len-len-requires
len-len-requires c = (here_cut c.removed.back.items c.pop.new.self.items c.removed.left _ c.removed.invariant.same
    c.in-Some.span c.in-Some.ensures.items c.removed.invariant.cut).0

pub back-requires : goal.back-requires
back-requires c = (here_cut c.removed.back.items c.pop.new.self.items c.removed.left _ c.removed.invariant.same
    c.in-Some.span c.in-Some.ensures.items c.removed.invariant.cut).1 (omega arith)

pub returns-then-left-len : goal.returns-then-left-len
returns-then-left-len c = removed_inside c.removed.back.items c.pop.new.self.items c.removed.left _
    c.removed.invariant.same c.in-Some.span c.in-Some.ensures.items c.push.new.self.items c.back.result
    c.in_ok-push.ensures.items c.back.ensures (omega arith)

pub removed-preserved : goal.removed-preserved
removed-preserved c =
    let cut = here_cut c.removed.back.items c.pop.new.self.items c.removed.left _ c.removed.invariant.same
    c.in-Some.span c.in-Some.ensures.items c.removed.invariant.cut in
    rw c.len-len.ensures (record {
      same = removed_whole c.removed.back.items c.pop.new.self.items c.removed.left _ c.removed.invariant.same
          c.in-Some.span c.in-Some.ensures.items (omega arith);
      cut = cut.2 (omega arith);
    })

pub returns : goal.returns
returns c = removed_none c.removed.back.items c.pop.new.self.items c.removed.left _ c.removed.invariant.same
    c.in_default.ensures.items (omega (arith, c.in_default.ensures.cases.0, c.removed.back.ok.0))
