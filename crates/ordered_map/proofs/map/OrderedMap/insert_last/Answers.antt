use Rattle.ordered_map.proofs.Prelude.{◌≡◌, ◌∙◌, ap, arith, refl, string_bytes, sym, with_items_is, with_items, somes, uncounted, common_steps}
use Rattle.ordered_map.proofs.CountLemmas.{block_has}
use Rattle.ordered_map.proofs.FindLemmas.{found}
use Rattle.ordered_map.proofs.MapLemmas.{IsFreed, freed_counted, freed_live, freed_none, freed_small, freed_some, put_entries}
use Rattle.ordered_map.proofs.SlotLemmas.{somes_short}
use Rattle.ordered_map.proofs.map.OrderedMap.insert_last.Goals.{in-Some, in-None}
use Rattle.ordered_map.proofs.map.OrderedMap.insert_last.Goals as goal
use Rattle.std.proofs.lemmas.Grind.{common_steps}

pub uncount-requires-clause-some : goal.uncount-requires-clause-some
uncount-requires-clause-some g c =
    let there = found (string_bytes c.args.key) c.self.inside.slots c.in-Some.slot
    (sym c.in_ok-slot.ensures.was ∙ c.in-Some.is) in
    rw (c.deref_mut.ensures.value, c.reserve.ensures.items)
    (block_has c.self.inside.slots c.self.inside.counts.items c.in-Some.slot there.entry c.self.invariant.counted
    there.at)

pub overflow_add-self : goal.overflow_add-self
overflow_add-self g c = grind (arith, common_steps, somes_short)

pub count_last-requires-clause-small : goal.count_last-requires-clause-small
count_last-requires-clause-small g c =
    let slots = c.self.inside.slots in
    let freed : IsFreed slots c.in_ok-slot.field-0 c.match-branch-3.self-inside.counts.items
    c.match-branch-3.self-inside.live =
    elim c.match-branch-3.branch [
      | in-Some w ↦
          let there = found (string_bytes c.args.key) slots w.in-Some.slot
          (sym c.in_ok-slot.ensures.was ∙ w.in-Some.is) in
          let counts_are : (with_items c.reserve.new.self w.uncount.new.counts).items
          ≡ uncounted c.self.inside.counts.items w.in-Some.slot =
          grind (arith, common_steps, with_items_is) in
          rw (w.self-inside-is, w.in-Some.is, counts_are)
          (freed_some slots c.self.inside.counts.items c.self.inside.live w.in-Some.slot there.entry c.self.invariant
          there.at)
      | in-None w ↦
          rw (w.self-inside-is, w.in-None.is, c.reserve.ensures.items)
          (freed_none slots c.self.inside.counts.items c.self.inside.live c.self.invariant)
    ] in
    freed_small slots c.in_ok-slot.field-0 c.match-branch-3.self-inside.counts.items
    c.match-branch-3.self-inside.live freed

pub pack_if_sparse-requires : goal.pack_if_sparse-requires
pack_if_sparse-requires g c =
    let slots = c.self.inside.slots in
    let freed : IsFreed slots c.in_ok-slot.field-0 c.match-branch-3.self-inside.counts.items
    c.match-branch-3.self-inside.live =
    elim c.match-branch-3.branch [
      | in-Some w ↦
          let there = found (string_bytes c.args.key) slots w.in-Some.slot
          (sym c.in_ok-slot.ensures.was ∙ w.in-Some.is) in
          let counts_are : (with_items c.reserve.new.self w.uncount.new.counts).items
          ≡ uncounted c.self.inside.counts.items w.in-Some.slot =
          grind (arith, common_steps, with_items_is) in
          rw (w.self-inside-is, w.in-Some.is, counts_are)
          (freed_some slots c.self.inside.counts.items c.self.inside.live w.in-Some.slot there.entry c.self.invariant
          there.at)
      | in-None w ↦
          rw (w.self-inside-is, w.in-None.is, c.reserve.ensures.items)
          (freed_none slots c.self.inside.counts.items c.self.inside.live c.self.invariant)
    ] in
    let slots_are : c.match-branch-3.self-inside.slots ≡ c.push.new.self = elim c.match-branch-3.branch [
      | in-Some w ↦ rw w.self-inside-is refl
      | in-None w ↦ rw w.self-inside-is refl
    ] in
    record {
      counted = rw (slots_are, c.in_ok-slot.ensures.put, c.deref_mut-2.ensures.value, c.count_last.ensures)
          (freed_counted slots c.in_ok-slot.field-0 c.match-branch-3.self-inside.counts.items
          c.match-branch-3.self-inside.live freed (c.args.key, c.args.value) c.len-len.result c.len-len.ensures.len);
      live = rw (slots_are, c.in_ok-slot.ensures.put)
          (freed_live slots c.in_ok-slot.field-0 c.match-branch-3.self-inside.counts.items
          c.match-branch-3.self-inside.live freed (c.args.key, c.args.value));
    }

pub returns-clause-inserted : goal.returns-clause-inserted
returns-clause-inserted g c =
    let slots_are : c.match-branch-3.self-inside.slots ≡ c.push.new.self = elim c.match-branch-3.branch [
      | in-Some w ↦ rw w.self-inside-is refl
      | in-None w ↦ rw w.self-inside-is refl
    ] in
    rw (← c.self.view_is)
    (c.pack_if_sparse.ensures.entries
    ∙ (ap somes (slots_are ∙ c.in_ok-slot.ensures.put)
    ∙ put_entries (string_bytes c.args.key) c.self.inside.slots c.in_ok-slot.field-0 (c.args.key, c.args.value)
    c.in_ok-slot.ensures.was))
