use Rattle.lsp_text.proofs.Prelude.{◌∙◌, refl, arith, common_steps}
use Rattle.lsp_text.proofs.TextLines.SpliceLemmas.{IsPlaced, line_of_same, starts_are_same, found_anew, placed_behind, placed_room, placed_whole}
use Rattle.lsp_text.proofs.lines.splice.splice_starts.Goals as goal

pub starts_to-keep-requires : goal.starts_to-keep-requires
starts_to-keep-requires c = starts_are_same c.requires.replaces.old c.args.starts.now.items c.deref.result.now
    c.deref.ensures.value c.requires.replaces.starts_are

pub starts_to-past-requires : goal.starts_to-past-requires
starts_to-past-requires c = starts_are_same c.requires.replaces.old c.args.starts.now.items c.deref-2.result.now
    c.deref-2.ensures.value c.requires.replaces.starts_are

pub shift-requires : goal.shift-requires
shift-requires c =
    let placed : IsPlaced c.requires.replaces.old c.args.bytes.now c.args.starts.now.items c.push_ends.new.starts.items
    c.deref_mut.result.now c.args.from c.args.to c.args.len c.starts_to-keep.result c.starts_to-past.result c.len.result
    = record {
      is = c.requires.replaces.replaced;
      starts_are = c.requires.replaces.starts_are;
      some_keep = c.starts_to-keep.ensures.some;
      keep_is = line_of_same _ c.deref.result.now _ c.saturating_sub-low.result _ c.deref.ensures.value
          c.saturating_sub-low.ensures c.starts_to-keep.ensures.last;
      some_past = c.starts_to-past.ensures.some;
      past_is = line_of_same _ c.deref-2.result.now _ c.args.to _ c.deref-2.ensures.value refl
          c.starts_to-past.ensures.last;
      found_is = found_anew c.args.bytes.now c.new-fresh.result.items c.push_ends.new.starts.items _
          c.saturating_sub-low.result _ c.new-fresh.ensures.items c.saturating_sub-low.ensures
          c.in_ok-push_ends.ensures.ok;
      counted = c.len.ensures ∙ c.push_ends.new.starts.ok.0;
      now_is = c.deref_mut.ensures.value ∙ c.in_ok-replace.ensures.ok;
    } in
    record {
      first = grind (arith, common_steps);
      rest_after = placed_behind _ _ _ _ _ _ _ _ _ _ _ placed;
      room = placed_room _ _ _ _ _ _ _ _ _ _ _ placed c.requires.size;
    }

pub returns-clause-ok : goal.returns-clause-ok
returns-clause-ok c =
    let placed : IsPlaced c.requires.replaces.old c.args.bytes.now c.args.starts.now.items c.push_ends.new.starts.items
    c.deref_mut.result.now c.args.from c.args.to c.args.len c.starts_to-keep.result c.starts_to-past.result c.len.result
    = record {
      is = c.requires.replaces.replaced;
      starts_are = c.requires.replaces.starts_are;
      some_keep = c.starts_to-keep.ensures.some;
      keep_is = line_of_same _ c.deref.result.now _ c.saturating_sub-low.result _ c.deref.ensures.value
          c.saturating_sub-low.ensures c.starts_to-keep.ensures.last;
      some_past = c.starts_to-past.ensures.some;
      past_is = line_of_same _ c.deref-2.result.now _ c.args.to _ c.deref-2.ensures.value refl
          c.starts_to-past.ensures.last;
      found_is = found_anew c.args.bytes.now c.new-fresh.result.items c.push_ends.new.starts.items _
          c.saturating_sub-low.result _ c.new-fresh.ensures.items c.saturating_sub-low.ensures
          c.in_ok-push_ends.ensures.ok;
      counted = c.len.ensures ∙ c.push_ends.new.starts.ok.0;
      now_is = c.deref_mut.ensures.value ∙ c.in_ok-replace.ensures.ok;
    } in
    placed_whole _ _ _ _ _ _ _ _ _ _ _ placed c.shift.new.starts _ _
    (c.shift.auto.starts ∙ c.deref_mut.ensures.len) c.shift.ensures
