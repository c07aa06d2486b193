use Rattle.lsp_message.proofs.Prelude.{◌≡◌, ◌≤◌, ◌++◌, ◌+◌, length, map, option_map, vec_len, vec_capacity, items_view, content_changes_in, content_change_view}
use Rattle.std.specs.Vec.Iter.{into_iter_items}
use Rattle.lsp_message.proofs.params.content_changes_into.Given as goal

-- the changes that were read, and those of the rest
abbrev pub invariant-loop-value : goal.invariant-loop-value
invariant-loop-value l = record {
  going : (goal.iterator-loop-value).can_next l.value-iterator;
  ending : (goal.iterator-loop-value).is_finite l.value-iterator;
  so_far : option_map (λ es. map content_change_view l.changes.items ++ es)
      (content_changes_in (items_view (into_iter_items l.value-iterator)))
      ≡ content_changes_in (items_view l.fn.values.items);
  room : vec_len l.changes + length (into_iter_items l.value-iterator) ≤ vec_capacity l.changes;
}
