use Rattle.ordered_map.proofs.Prelude.{◌∙◌, Some, ap, slice_get, sym, none-some, some_pair_parts, somes, common_steps, arith}
use Rattle.ordered_map.proofs.FindLemmas.{found, position_found, position_missing, missing}
use Rattle.ordered_map.proofs.SlotLemmas.{somes_at}
use Rattle.ordered_map.proofs.map.OrderedMap.get_full.Goals as goal

pub returns-in_err-slot : goal.returns-in_err-slot
returns-in_err-slot g c =
    let none = missing c.args.key.now c.self.inside.slots (sym c.in_err-slot.ensures) in
    rw (c.from_residual.ensures, ← c.self.view_is) (record {
      index = sym (position_missing c.args.key.now _ none);
      key = sym none.key;
      value = sym none.value;
      entry = tt;
    })

pub returns-in_err-key : goal.returns-in_err-key
returns-in_err-key g c =
    let there = found c.args.key.now c.self.inside.slots c.in_ok-slot.slot (sym c.in_ok-slot.ensures) in
    absurd (none-some there.entry (c.in_err-key.ensures ∙ there.here))

pub returns : goal.returns
returns g c =
    let there = found c.args.key.now c.self.inside.slots c.in_ok-slot.slot (sym c.in_ok-slot.ensures) in
    let parts = some_pair_parts c.in_ok-key.key.now there.entry.0 c.in_ok-key.value.now there.entry.1
    (c.in_ok-key.ensures ∙ there.here) in
    rw (← c.self.view_is) (record {
      index = grind (arith, common_steps, position_found, c.index_of-index.ensures);
      key = ap (λ key. Some key) parts.0 ∙ sym there.key;
      value = ap (λ value. Some value) parts.1 ∙ sym there.value;
      entry = ap (slice_get (somes c.self.inside.slots)) c.index_of-index.ensures
          ∙ grind (arith, common_steps, somes_at, c.in_ok-key.ensures);
    })
