use Rattle.ordered_map.proofs.Prelude.{common_steps, with_items_is, with_items, somes, uncounted}
use Rattle.std.proofs.Common.{arith, sym, refl, ◌≡◌, ◌∙◌, ap}
use Rattle.ordered_map.proofs.FindLemmas.{missing, found}
use Rattle.ordered_map.proofs.CountLemmas.{block_has, taken_counted}
use Rattle.ordered_map.proofs.SlotLemmas.{somes_taken}
use Rattle.ordered_map.proofs.map.OrderedMap.remove.Goals as goal
use Rattle.std.proofs.lemmas.Grind.{common_steps}

pub returns-in_err-slot : goal.returns-in_err-slot
returns-in_err-slot g c =
    let none = missing c.args.key.now c.self.inside.slots (sym c.in_err-slot.ensures) in
    rw (c.from_residual.ensures, ← c.self.view_is) (record {
      value = sym none.value;
      entries = sym none.removed;
      unchanged = refl;
    })

pub uncount-requires-clause-some : goal.uncount-requires-clause-some
uncount-requires-clause-some g c =
    let there = found c.args.key.now c.self.inside.slots c.in_ok-slot.slot (sym c.in_ok-slot.ensures) in
    rw c.deref_mut.ensures.value (block_has c.self.inside.slots c.self.inside.counts.items c.in_ok-slot.slot there.entry
    c.self.invariant.counted there.at)

pub overflow_sub-self : goal.overflow_sub-self
overflow_sub-self g c =
    let there = found c.args.key.now c.self.inside.slots c.in_ok-slot.slot (sym c.in_ok-slot.ensures) in
    omega (arith, c.self.invariant.live_is, somes_taken c.self.inside.slots c.in_ok-slot.slot there.entry there.at)

pub pack_if_sparse-requires : goal.pack_if_sparse-requires
pack_if_sparse-requires g c =
    let there = found c.args.key.now c.self.inside.slots c.in_ok-slot.slot (sym c.in_ok-slot.ensures) in
    let counts_are : (with_items c.self.inside.counts c.uncount.new.counts).items
    ≡ uncounted c.self.inside.counts.items c.in_ok-slot.slot =
    grind (arith, common_steps, with_items_is, c.deref_mut.ensures.len, c.uncount.ensures, c.deref_mut.ensures.value) in
    rw c.take-value.ensures.slots (record {
      counted = rw (c.deref_mut-2.ensures.value, counts_are) (taken_counted c.self.inside.slots
          c.self.inside.counts.items c.in_ok-slot.slot there.entry c.self.invariant.counted there.at);
      live = omega (arith, somes_taken c.self.inside.slots c.in_ok-slot.slot there.entry there.at);
    })

pub returns : goal.returns
returns g c =
    let there = found c.args.key.now c.self.inside.slots c.in_ok-slot.slot (sym c.in_ok-slot.ensures) in
    rw (← c.self.view_is) (record {
      value = grind (arith, common_steps, c.take-value.ensures.value);
      entries = c.pack_if_sparse.ensures.entries ∙ (ap somes c.take-value.ensures.slots ∙ sym there.removed);
      unchanged = rw (c.take-value.ensures.value, there.here) tt;
    })
