use Rattle.ordered_map.proofs.map.OrderedMap.get_key_value.Goals as goal
use Rattle.ordered_map.proofs.Prelude.{◌∙◌, sym}
use Rattle.ordered_map.proofs.FindLemmas.{found, missing}
use Rattle.ordered_map.proofs.MapLemmas.{seen}

pub returns-in_err-slot : goal.returns-in_err-slot
returns-in_err-slot g c =
    let none = missing c.args.key.now c.self.inside.slots (sym c.in_err-slot.ensures) in
    rw (c.from_residual.ensures, ← c.self.view_is) (record { key = sym none.key; value = sym none.value })

pub returns : goal.returns
returns g c =
    let there = found c.args.key.now c.self.inside.slots c.in_ok-slot.slot (sym c.in_ok-slot.ensures) in
    let is = seen c.entry.result there.entry (c.entry.ensures ∙ there.here) in
    rw (← c.self.view_is) (record { key = is.key_is ∙ sym there.key; value = is.value_is ∙ sym there.value })
