use Rattle.ordered_map.proofs.Prelude.{sym}
use Rattle.ordered_map.proofs.KeyLemmas.{dead_entry, live_entry, no_entry}
use Rattle.ordered_map.proofs.slots.Slots.find.Goals as goal

pub returns-in_err-slot : goal.returns-in_err-slot
returns-in_err-slot g c =
    rw (c.from_residual.ensures, ← c.self.view_is)
    (sym (no_entry c.args.key.now c.self.inside.indexed.entries (sym c.in_err-slot.ensures.found)))

pub returns-in_err-entry : goal.returns-in_err-entry
returns-in_err-entry g c =
    rw (c.from_residual-in_err-entry.ensures, ← c.self.view_is)
    (sym (dead_entry c.args.key.now c.self.inside.indexed.entries c.in_ok-slot.slot c.in_ok-slot.ensures.only
    (rw (← c.self.view_is) at (sym c.in_err-entry.ensures))))

pub returns : goal.returns
returns g c =
    rw (← c.self.view_is)
    (sym (live_entry c.args.key.now c.self.inside.indexed.entries c.in_ok-slot.slot _ (sym c.in_ok-slot.ensures.found)
    (rw (← c.self.view_is) at (sym c.in_ok-entry.ensures))))
