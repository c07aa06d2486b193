use Rattle.lsp_edit.proofs.Prelude.{rest_is, rest_none, ◌++◌, List, ap, subst, string_bytes, IsUtf8-string_bytes, owned_parts, AreSameItems, Part, OldPart, NewPart, new_parts, part_of, parts_of}
use Rattle.lsp_edit.proofs.Deltas.OwnedLemmas.{same_ends, same_new, same_old_on}
use Rattle.lsp_edit.proofs.joined.layer.Layer.of_spans.Goals.{in-Old+in_ok-push_new-in-Old+in_ok-push-in-Old, in-New+in_ok-push_str-in-New}
use Rattle.lsp_edit.proofs.joined.layer.Layer.of_spans.Goals as goal

pub loop-span-preserved : goal.loop-span-preserved
loop-span-preserved c =
    elim c.match-span.branch [
      | in-Old+in_ok-push_new-in-Old+in_ok-push-in-Old w ↦
          rw (
            w.owned-is,
            w.text-is,
            w.in_ok-push-in-Old.ensures.items,
            w.replace-filled.ensures.after,
            w.new.ensures.bytes,
          )
          (same_old_on (parts_of c.args.spans.now) c.loop-span.owned.items _ (string_bytes c.loop-span.text) _
          w.in-Old.from w.in-Old.to _ _ c.loop-span.invariant
          (rest_is part_of c.args.spans.now c.loop-span.span-index _ (OldPart w.in-Old.from w.in-Old.to)
          c.loop-span-test.true (ap part_of w.in-Old.is))
          w.in_ok-push_new-in-Old.ensures
          (ap string_bytes w.replace-filled.ensures.value))
      | in-New+in_ok-push_str-in-New w ↦
          rw (w.owned-is, w.text-is, w.in_ok-push_str-in-New.ensures.bytes)
          (same_new (parts_of c.args.spans.now) (owned_parts c.loop-span.owned.items) (string_bytes c.loop-span.text)
          w.in-New.new.now _ (IsUtf8-string_bytes c.loop-span.text)
          (subst (λ (ps : List Part). AreSameItems (owned_parts c.loop-span.owned.items
          ++ (new_parts (string_bytes c.loop-span.text) ++ ps)) (parts_of c.args.spans.now))
          (rest_is part_of c.args.spans.now c.loop-span.span-index _ (NewPart w.in-New.new.now) c.loop-span-test.true
          (ap part_of w.in-New.is))
          c.loop-span.invariant))
    ]

pub returns : goal.returns
returns c =
    rw c.in_ok-push_new.ensures
    (same_ends (parts_of c.args.spans.now) (owned_parts c.loop-span.owned.items) (string_bytes c.loop-span.text)
    (subst (λ (ps : List Part). AreSameItems (owned_parts c.loop-span.owned.items
    ++ (new_parts (string_bytes c.loop-span.text) ++ ps)) (parts_of c.args.spans.now))
    (rest_none part_of c.args.spans.now c.loop-span.span-index c.loop-span-test.false)
    c.loop-span.invariant))
