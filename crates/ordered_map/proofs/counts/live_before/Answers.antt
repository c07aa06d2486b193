use Rattle.ordered_map.proofs.Prelude.{◌≡◌, ◌<◌, ◌+◌, None, arith, slice_index_or as get_or, length, sym, slice_get-get_or, here, live_to, common_steps}
use Rattle.ordered_map.proofs.SlotLemmas.{here_none, here_some, live_below, live_next, live_none}
use Rattle.ordered_map.proofs.counts.live_before.Goals.{then-is_live, else-is_live}
use Rattle.ordered_map.proofs.counts.live_before.Goals as goal

pub loop-block-init : goal.loop-block-init
loop-block-init g c = sym (live_none c.args.slots.now)

pub overflow_add-live : goal.overflow_add-live
overflow_add-live g c = grind (arith, common_steps, live_below)

pub overflow_add-live-then-is_live : goal.overflow_add-live-then-is_live
overflow_add-live-then-is_live g c =
    grind (arith, common_steps, live_below, c.loop-before.invariant, c.loop-before-test.true)

pub loop-before-preserved : goal.loop-before-preserved
loop-before-preserved g c =
    let items = c.args.slots.now in
    let within : c.loop-before.before < length c.args.slots.now =
    omega (arith, c.loop-before-test.true, c.requires.within) in
    let so_far : c.loop-before.live ≡ live_to items c.loop-before.before = c.loop-before.invariant in
    let next : live_to items (c.loop-before.before + 1) ≡ live_to items c.loop-before.before
    + here (get_or items c.loop-before.before None)
    = grind (arith, common_steps, live_next, slice_get-get_or) in
    let more : c.if-is_live.live ≡ live_to items (c.loop-before.before + 1) =
    elim c.if-is_live.branch [
      | then-is_live w ↦ grind (arith, common_steps, here_some, w.live-is, c.is_live.ensures, w.if-is_live.true)
      | else-is_live w ↦ grind (arith, common_steps, here_none, w.live-is, c.is_live.ensures, w.if-is_live.false)
    ] in
    more
