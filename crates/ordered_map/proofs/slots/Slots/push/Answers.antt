use Rattle.ordered_map.proofs.Prelude.{◌≡◌, ◌∙◌, ◌++◌, [], ◌∷◌, Some, ap, map, position, sym, insert_entry-new, slot_entry, has_key, vacated}
use Rattle.ordered_map.proofs.KeyLemmas.{put_entries}
use Rattle.ordered_map.proofs.slots.Slots.push.Goals as goal

pub returns-clause-put : goal.returns-clause-put
returns-clause-put g c =
    let slots = c.self.inside.indexed.entries in
    let free = c.free_key.new.indexed.entries in
    let put : c.insert.new.self.entries ≡ free ++ (c.args.key, Some c.args.value) ∷ [] =
    (rw c.unwrap.ensures at c.insert.ensures.entries) ∙ insert_entry-new _ c.free_key.new.indexed c.args.key
    (Some c.args.value) (rw c.deref-2.ensures at c.in_ok-free_key.ensures.free) in
    let items = c.in_ok-free_key.ensures.items ∙ ap (vacated (map slot_entry slots))
    (ap (λ bytes. position (has_key bytes) (map slot_entry slots)) c.deref-2.ensures
    ∙ sym (rw (c.deref.ensures, ← c.self.view_is) at c.find-was.ensures)) in
    rw (← c.self.view_is)
    (ap (map slot_entry) put
    ∙ put_entries free (vacated (map slot_entry slots) c.find-was.result) c.args.key c.args.value items)
