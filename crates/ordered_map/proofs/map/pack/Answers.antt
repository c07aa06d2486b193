use Rattle.ordered_map.proofs.Prelude.{◌∙◌, ◌-◌, ◌*◌, ap, min, somes}
use Rattle.ordered_map.proofs.MapLemmas.{packed_counted, packed_full}
use Rattle.ordered_map.proofs.SlotLemmas.{packed_somes}
use Rattle.ordered_map.proofs.map.pack.Goals as goal

pub returns-clause-full : goal.returns-clause-full
returns-clause-full g c = packed_full c.args.slots.now c.pack.new.self c.pack.ensures

pub returns-clause-counted : goal.returns-clause-counted
returns-clause-counted g c =
    packed_counted c.args.slots.now c.args.counts.now c.requires c.pack.new.self c.recount.new.counts c.pack.ensures
    c.recount.ensures.len
    (λ block within. c.recount.ensures.counts block within ∙ ap (λ n. min 256 (n - 256 * block)) c.len.ensures.len)

pub returns-clause-entries : goal.returns-clause-entries
returns-clause-entries g c = ap somes c.pack.ensures ∙ packed_somes c.args.slots.now
