use Rattle.ordered_map.proofs.Prelude.{◌≡◌, ◌+◌, ◌*◌, ◌∙◌, arith, sym, live_to, common_steps, None, slice_index_or as get_or, slice_get-get_or, here}
use Rattle.ordered_map.proofs.SlotLemmas.{here_none, here_some, live_past, live_read, live_next}
use Rattle.ordered_map.proofs.counts.live_from.Goals.{then-is_live+else-left-eq0, else-is_live}
use Rattle.ordered_map.proofs.counts.live_from.Goals as goal
use Rattle.std.proofs.lemmas.Grind.{common_steps}

pub returns-then-left-eq0-clause-found : goal.returns-then-left-eq0-clause-found
returns-then-left-eq0-clause-found g c =
    live_read c.args.slots.now c.loop-slot.slot (omega arith) (sym c.is_live.ensures ∙ c.if-is_live.true)

pub loop-slot-preserved : goal.loop-slot-preserved
loop-slot-preserved g c =
    let items = c.args.slots.now in
    let so_far = c.loop-slot.invariant in
    let next : live_to items (c.loop-slot.slot + 1) ≡ live_to items c.loop-slot.slot
    + here (get_or items c.loop-slot.slot None)
    = grind (arith, common_steps, live_next, slice_get-get_or) in
    let more : live_to items (c.loop-slot.slot + 1) + c.if-is_live.left ≡ live_to items (256 * c.args.block)
    + c.args.count =
    elim c.if-is_live.branch [
      | then-is_live+else-left-eq0 w ↦ grind (
        arith,
        common_steps,
        here_some,
        w.left-is,
        w.if-left-eq0.false,
        c.is_live.ensures,
        w.if-is_live.true,
      )
      | else-is_live w ↦ grind (arith, common_steps, here_none, w.left-is, c.is_live.ensures, w.if-is_live.false)
    ] in
    more

pub returns-clause-none : goal.returns-clause-none
returns-clause-none g c = grind (arith, common_steps, live_past, c.loop-slot.invariant)
