use Rattle.ordered_map.proofs.Prelude.{◌≡◌, ◌∙◌, None, ap, map, position, refl, set, sym, keys_of, is_key, slot_entry, vacated}
use Rattle.ordered_map.proofs.KeyLemmas.{absent, key_fails, key_gone, no_entry, vacated_entries}
use Rattle.ordered_map.proofs.slots.free_key.Goals as goal

pub returns-in_ok-text-clause-items : goal.returns-in_ok-text-clause-items
returns-in_ok-text-clause-items g c =
    rw (← c.reserve.ensures.entries)
    (ap (map slot_entry) c.replace_key.ensures.slots
    ∙ vacated_entries c.args.key.now c.reserve.new.self.entries c.in-Some.slot (sym c.in-Some.ensures.found)
    c.in_ok-text.text _ c.in-Some.ensures.only refl)

pub returns-in_ok-text-clause-free : goal.returns-in_ok-text-clause-free
returns-in_ok-text-clause-free g c =
    rw c.replace_key.ensures.slots
    (absent (is_key c.args.key.now) (set c.reserve.new.self.entries c.in-Some.slot (c.in_ok-text.text, None))
    (key_gone c.args.key.now c.reserve.new.self.entries c.in-Some.slot (sym c.in-Some.ensures.found) c.in_ok-text.text
    c.in-Some.ensures.only c.in_ok-text.ensures))

pub returns-in_default-clause-items : goal.returns-in_default-clause-items
returns-in_default-clause-items g c =
    let slots = c.reserve.new.self.entries in
    let none : position (is_key c.args.key.now) (keys_of slots) ≡ None =
    sym c.slot_of_key.ensures.found ∙ c.in_default.is in
    rw (← c.reserve.ensures.entries) (sym (ap (vacated (map slot_entry slots)) (no_entry c.args.key.now slots none)))

pub returns-in_default-clause-free : goal.returns-in_default-clause-free
returns-in_default-clause-free g c =
    let slots = c.reserve.new.self.entries in
    let none : position (is_key c.args.key.now) (keys_of slots) ≡ None =
    sym c.slot_of_key.ensures.found ∙ c.in_default.is in
    absent (is_key c.args.key.now) slots (key_fails c.args.key.now slots none)
