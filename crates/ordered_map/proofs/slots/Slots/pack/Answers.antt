use Rattle.ordered_map.proofs.Prelude.{is_some, rules, filter-RetainsPairs}
use Rattle.ordered_map.proofs.KeyLemmas.{packed_entries}
use Rattle.ordered_map.proofs.slots.Slots.pack.Goals as goal

pub returns : goal.returns
returns g c =
    let kept = filter-RetainsPairs _ (λ slot. is_some slot.1) _ (λ k v b w f says. search rules)
    c.self.inside.indexed.entries _ c.retain.ensures.filtered in
    rw (← c.self.view_is, kept) (packed_entries c.self.inside.indexed.entries)
