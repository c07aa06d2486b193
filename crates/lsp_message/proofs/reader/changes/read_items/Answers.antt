use Rattle.lsp_message.proofs.Prelude.{◌≡◌, ◌∷◌, ◌++◌, List, [], Bool, true, false, map, map-append, Option, Some, None, option_map, option_and_then, if◌then◌else◌, refl, sym, ap, ◌∙◌, arith, after_end_array, Data, Items, no_items, item, items_at, each_of, ContentChangeData, content_change_in, content_change_view}
use Rattle.lsp_message.proofs.Grammar.{left_first, one_more, items_next, items_refused, items_last}
use Rattle.lsp_message.proofs.reader.changes.read_items.Goals as goal

-- a list and one change more, if there are both
abbrev with_last : Option ContentChangeData → Option (List ContentChangeData) → Option (List ContentChangeData)
with_last last so_far = option_and_then (λ es. option_map (λ e. es ++ e ∷ []) last) so_far

with_first : (first last : Option ContentChangeData) (so_far : Option (List ContentChangeData))
    → option_and_then (λ e. option_and_then (λ es. Some (e ∷ es)) (with_last last so_far)) first
    ≡ with_last last (option_and_then (λ e. option_and_then (λ es. Some (e ∷ es)) so_far) first)
with_first (Some e) (Some f) (Some es) = refl
with_first (Some e) None (Some es) = refl
with_first (Some e) last None = refl
with_first None last so_far = refl

each_more : (found : Items) (d : Data) → each_of content_change_in (one_more found d)
    ≡ with_last (content_change_in d) (each_of content_change_in found)
each_more no_items d = alone (content_change_in d)
  where
    alone : (last : Option ContentChangeData) → option_and_then (λ e. option_and_then (λ es. Some (e ∷ es)) (Some []))
        last ≡ with_last last (Some [])
    alone None = refl
    alone (Some e) = refl
each_more (item first found) d =
    rw (each_more found d) (with_first (content_change_in first) (content_change_in d) (each_of content_change_in
    found))

-- the changes after an item that is this, or none
module _ (good : Bool) (found : Items) (d : Data) (so_far : List ContentChangeData)
    (is : each_of content_change_in found ≡ (if good then Some so_far else None)) where
  with_change : (e : ContentChangeData) → Some e ≡ content_change_in d → each_of content_change_in (one_more found d)
      ≡ (if good then Some (so_far ++ e ∷ []) else None)
  with_change e change = rw (each_more found d, is, sym change) (by good)
    where
      by : (b : Bool) → with_last (Some e) (if b then Some so_far else None)
          ≡ (if b then Some (so_far ++ e ∷ []) else None)
      by true = refl
      by false = refl

  without : None ≡ content_change_in d → each_of content_change_in (one_more found d) ≡ None
  without none = rw (each_more found d, is, sym none) (by good)
    where
      by : (b : Bool) → with_last None (if b then Some so_far else None) ≡ None
      by true = refl
      by false = refl

pub items-init : goal.items-init
items-init c = (
  no_items,
  left_first (items_at c.args.depth) no_items c.args.reader.now,
  ap (λ es. Some (map content_change_view es)) (sym c.new-found.ensures.items),
)

pub returns-in_err-change-clause-error : goal.returns-in_err-change-clause-error
returns-in_err-change-clause-error c = λ e.
    let going : (after_end_array c.items.reader ≡ None) × (c.take_end_array.new.self ≡ c.items.reader) = grind arith in
    items_refused c.args.depth c.items.invariant.1 going (c.in_err-change.ensures.error (grind arith))

pub items-preserved-in-Continue-branch-3 : goal.items-preserved-in-Continue-branch-3
items-preserved-in-Continue-branch-3 c =
    let l = c.items in
    let going : (after_end_array l.reader ≡ None) × (c.take_end_array.new.self ≡ l.reader) = grind arith in
    let done = c.in_ok-change.ensures in
    let change = content_change_view c.in-Some.change in
    let is : Some change ≡ content_change_in done.ok.0 = ap (option_map content_change_view) (sym c.in-Some.is)
    ∙ done.ok.2 in
    let longer : map content_change_view c.push.new.self.items ≡ map content_change_view l.found.items ++ change ∷ [] =
    ap (map content_change_view) c.in_ok-push-in-Some.ensures.items ∙ map-append content_change_view l.found.items
    (c.in-Some.change ∷ []) in (
      one_more l.invariant.0 done.ok.0,
      items_next c.args.depth l.invariant.1 going done.ok.1 done.shorter,
      rw longer (with_change l.all_changes l.invariant.0 done.ok.0 _ l.invariant.2 change is),
    )

pub items-preserved : goal.items-preserved
items-preserved c =
    let l = c.items in
    let going : (after_end_array l.reader ≡ None) × (c.take_end_array.new.self ≡ l.reader) = grind arith in
    let done = c.in_ok-change.ensures in (
      one_more l.invariant.0 done.ok.0,
      items_next c.args.depth l.invariant.1 going done.ok.1 done.shorter,
      without l.all_changes l.invariant.0 done.ok.0 _ l.invariant.2
          (ap (option_map content_change_view) (sym c.in-None.is) ∙ done.ok.2),
    )

pub returns-then-all_changes-clause-ok : goal.returns-then-all_changes-clause-ok
returns-then-all_changes-clause-ok c =
    let ends : after_end_array c.items.reader ≡ Some c.take_end_array.new.self = grind arith in (
      c.items.invariant.0,
      items_last c.args.depth c.items.invariant.1 ends,
      sym (rw c.if-all_changes.true at c.items.invariant.2),
    )

pub returns-else-all_changes-clause-ok : goal.returns-else-all_changes-clause-ok
returns-else-all_changes-clause-ok c =
    let ends : after_end_array c.items.reader ≡ Some c.take_end_array.new.self = grind arith in (
      c.items.invariant.0,
      items_last c.args.depth c.items.invariant.1 ends,
      sym (rw c.if-all_changes.false at c.items.invariant.2),
    )
