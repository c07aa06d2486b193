use Rattle.lsp_buffer.proofs.Prelude.{arith, ap, ◌∙◌, ◌-◌, sym, subst, ℕ, List, take, drop, ◌≡◌}
use Rattle.lsp_buffer.proofs.Blocks.CutLemmas.{IsCutSoFar, cut_more, cut_all}
use Rattle.lsp_buffer.proofs.cut.blocks_of.Goals as goal

pub loop-cut-preserved : goal.loop-cut-preserved
loop-cut-preserved c =
    let rest = c.loop-cut.rest.now in
    let cut = c.in-Some.cut in
    let front = c.range.ensures.value ∙ ap (λ n. take n rest) (let e : cut - 0 ≡ cut = omega arith in e) in
    let back : drop cut rest ≡ c.range_from-rest.result.now = sym (c.range_from-rest.ensures.value) in (
      c.range_from-rest.utf8,
      subst (λ (bytes : List ℕ). IsCutSoFar c.args.text.now bytes c.push.new.self.items) back
          (cut_more c.args.text.now rest c.loop-cut.blocks.items c.push.new.self.items c.in_ok-from_str.field-0 cut
          c.loop-cut.invariant.0 c.in-Some.ensures.cut c.in-Some.ensures.boundary (c.in_ok-from_str.ensures ∙ front)
          c.in_ok-push.ensures.items c.loop-cut.invariant.1),
    )

pub returns : goal.returns
returns c =
    let all = cut_all c.args.text.now c.loop-cut.rest.now c.loop-cut.blocks.items c.push-2.new.self.items
    c.in_ok-from_str-2.field-0 c.loop-cut.invariant.0 c.in_ok-from_str-2.ensures c.in_ok-push-2.ensures.items
    c.loop-cut.invariant.1 in
    record { text = all.whole; blocks = all.are; full = all.full }
