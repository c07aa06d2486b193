use Rattle.lsp_edit.proofs.Prelude.{rest_is, rest_none, ℕ, ◌++◌, map, reverse, string_bytes, ap, ◌∙◌, IsUtf8-string_bytes, units_in, content_change, change_at, gap_between, chars, OldPart, NewPart, part_of, parts_of}
use Rattle.lsp_edit.proofs.Canonical.WalkLemmas.{walk_begins, walk_new, walk_old, walk_old_ends, walk_end, walk_end_ends, walk_turned}
use Rattle.lsp_edit.proofs.pieces.canonical.canonical_of.Goals.{in-Old+in_ok-put_gap-in-Old, in-New+in_ok-push_str-in-New}
use Rattle.lsp_edit.proofs.pieces.canonical.canonical_of.Goals as goal

pub loop-span-init : goal.loop-span-init
loop-span-init c = rw (
  c.new-changes.ensures.items,
  c.new-text.ensures.bytes,
) (walk_begins (units_in c.args.encoding) c.args.before.now c.len-end.ensures.utf8 (parts_of c.args.spans.now)
    c.requires.parts c.requires.keeps)

pub put_gap-requires-clause-ends : goal.put_gap-requires-clause-ends
put_gap-requires-clause-ends c =
    rw c.replace-filled.ensures.value
    (walk_old_ends (units_in c.args.encoding) c.args.before.now c.len-end.ensures.utf8 _ _ _ _
    (IsUtf8-string_bytes c.loop-span.text) _ c.loop-span.invariant c.in-Old.from c.in-Old.to _
    (rest_is part_of c.args.spans.now c.loop-span.span-index _ (OldPart c.in-Old.from c.in-Old.to) c.loop-span-test.true
    (ap part_of c.in-Old.is)))

pub loop-span-preserved : goal.loop-span-preserved
loop-span-preserved c =
    elim c.match-span.branch [
      | in-Old+in_ok-put_gap-in-Old w ↦
          rw (
            w.changes-is,
            w.low-is,
            w.text-is,
            w.replace-filled.ensures.after,
            w.new.ensures.bytes,
            w.in_ok-put_gap-in-Old.ensures,
            w.replace-filled.ensures.value,
          )
          (walk_old (units_in c.args.encoding) c.args.before.now c.len-end.ensures.utf8 _ _ _ _
          (IsUtf8-string_bytes c.loop-span.text) _ c.loop-span.invariant w.in-Old.from w.in-Old.to _
          (rest_is part_of c.args.spans.now c.loop-span.span-index _ (OldPart w.in-Old.from w.in-Old.to)
          c.loop-span-test.true (ap part_of w.in-Old.is)))
      | in-New+in_ok-push_str-in-New w ↦
          rw (w.changes-is, w.low-is, w.text-is, w.in_ok-push_str-in-New.ensures.bytes)
          (walk_new (units_in c.args.encoding) c.args.before.now c.len-end.ensures.utf8 _ _ _ _
          (IsUtf8-string_bytes c.loop-span.text) _ c.loop-span.invariant w.in-New.new.now _
          (rest_is part_of c.args.spans.now c.loop-span.span-index _ (NewPart w.in-New.new.now) c.loop-span-test.true
          (ap part_of w.in-New.is)))
    ]

pub put_gap-requires-2-clause-ends : goal.put_gap-requires-2-clause-ends
put_gap-requires-2-clause-ends c =
    rw c.len-end.ensures.len
    (walk_end_ends (units_in c.args.encoding) c.args.before.now c.len-end.ensures.utf8 _ _ _ _
    (IsUtf8-string_bytes c.loop-span.text) _ c.loop-span.invariant (rest_none part_of c.args.spans.now
    c.loop-span.span-index c.loop-span-test.false))

pub returns : goal.returns
returns c =
    rw c.reverse.ensures.items
    (walk_turned c.put_gap-2.new.changes.items
    ∙ ap reverse (c.in_ok-put_gap.ensures
    ∙ (ap (λ (high : ℕ). map content_change c.loop-span.changes.items ++ change_at (units_in c.args.encoding)
    (chars c.args.before.now) (gap_between c.args.before.now c.loop-span.low high (string_bytes c.loop-span.text)))
    c.len-end.ensures.len ∙ walk_end (units_in c.args.encoding) c.args.before.now c.len-end.ensures.utf8 _ _ _ _
    (IsUtf8-string_bytes c.loop-span.text) _ c.loop-span.invariant (rest_none part_of c.args.spans.now
    c.loop-span.span-index c.loop-span-test.false))))
