use Rattle.lsp_edit.proofs.Prelude.{◌∙◌, arith, chars, plain}
use Rattle.lsp_edit.proofs.Deltas.OwnedLemmas.{last_all, last_same, last_through, two_last}
use Rattle.lsp_edit.proofs.joined.Joined.join_last.Goals as goal

pub then-requires : goal.then-requires
then-requires c =
    let before = chars c.self.inside.before in
    let two = two_last c.self.inside.layers.items c.len-len.result c.index-first.result.now c.index-second.result.now
    (omega (arith, c.if-len-lt2.false)) (omega (arith, c.len-len.ensures, c.self.inside.layers.ok))
    c.index-first.ensures c.index-second.ensures in
    let both = last_through before (plain before) c.self.inside.layers.items _ c.index-first.result.now
    c.index-second.result.now two c.self.invariant in
    record { through = both.0; order = both.1 }

pub invariant_of-self : goal.invariant_of-self
invariant_of-self c =
    last_all (chars c.self.inside.before) (plain (chars c.self.inside.before)) c.self.inside.layers.items _
    c.index-first.result.now c.index-second.result.now
    (two_last c.self.inside.layers.items c.len-len.result c.index-first.result.now c.index-second.result.now
    (omega (arith, c.if-len-lt2.false)) (omega (arith, c.len-len.ensures, c.self.inside.layers.ok))
    c.index-first.ensures c.index-second.ensures)
    c.self.invariant
    c.in_ok-both.both
    c.in_ok-both.ensures
    c.push_reserved.new.self.items
    (rw c.truncate.ensures.items at c.push_reserved.ensures.items)

pub returns : goal.returns
returns c =
    let same = last_same (chars c.self.inside.before) (plain (chars c.self.inside.before)) c.self.inside.layers.items _
    c.index-first.result.now c.index-second.result.now
    (two_last c.self.inside.layers.items c.len-len.result c.index-first.result.now c.index-second.result.now
    (omega (arith, c.if-len-lt2.false)) (omega (arith, c.len-len.ensures, c.self.inside.layers.ok))
    c.index-first.ensures c.index-second.ensures)
    c.self.invariant
    c.in_ok-both.both
    c.in_ok-both.ensures
    c.push_reserved.new.self.items
    (rw c.truncate.ensures.items at c.push_reserved.ensures.items) in
    (λ i. record { before = c.self.inside.before; items = same i }) ∙ c.self.view_is
