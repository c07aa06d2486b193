-- Two batches, one after the other, mean what their meanings composed are, and composing is associative.
use Rattle.lsp_edit.proofs.Prelude.{ℕ, zero, suc, ◌≡◌, ◌+◌, ◌≤◌, nat_le, List, [], ◌∷◌, ◌++◌, length, map, take, drop, Option, Some, None, Ok, refl, sym, ap, ap₂, ◌∙◌, subst, arith, drop-cons, take_all, cases_Bool, map-append, length-map, take-map, drop-map, Range, numbers_from, denoted, Item, Old, New, plain, character_of, text_of, ContentChange, changed_in, items_after, after_changes, meaning, replaced, then_items, canonical, Keeps, common_steps}
use Rattle.lsp_edit.proofs.Batches.BatchLemmas.{by_changes, after_changes-append, any_number}
use Rattle.lsp_edit.proofs.Canonical.KeepsLemmas.{meaning_keeps}
use Rattle.lsp_edit.proofs.Canonical.RebuiltLemmas.{canonical_makes}
use Rattle.std.proofs.Math.ListN.{get_or-map}

pub text_of-then : (old : List ℕ) (first second : List Item) → text_of old (then_items first second)
    ≡ text_of (text_of old first) second
text_of-then old first [] = refl
text_of-then old first (Old index ∷ second) =
    grind (arith, common_steps, ap₂, get_or-map, (text_of-then old first second))
text_of-then old first (New character ∷ second) = ap (λ (cs : List ℕ). character ∷ cs) (text_of-then old first second)

pub told_row : (first : List Item) (low count : ℕ) → low + count ≤ length first
    → then_items first (map Old (numbers_from low count)) ≡ take count (drop low first)
told_row first low zero within = refl
told_row first low (suc count) within =
    grind (arith, common_steps, drop-cons, (told_row first (suc low) count (omega arith)))

pub then-plain : (old : List ℕ) (first : List Item) → then_items first (plain (text_of old first)) ≡ first
then-plain old first =
    let n : length (text_of old first) ≡ length first = length-map first (character_of old) in
    rw n (told_row first 0 (length first) (omega arith) ∙ take_all (length first) first (omega arith))

pub told_new : (first : List Item) (characters : List ℕ) → then_items first (map New characters) ≡ map New characters
told_new first [] = refl
told_new first (c ∷ characters) = ap (λ (is : List Item). New c ∷ is) (told_new first characters)

pub then_associative : (first second third : List Item) → then_items (then_items first second) third
    ≡ then_items first (then_items second third)
then_associative first second [] = refl
then_associative first second (Old index ∷ third) =
    grind (arith, common_steps, ap₂, get_or-map, (then_associative first second third))
then_associative first second (New character ∷ third) =
    ap (λ (is : List Item). New character ∷ is) (then_associative first second third)

module _ (units : ℕ → ℕ) (old : List ℕ) (first : List Item) where
  told_replaced : (items : List Item) (characters : List ℕ) (a b : ℕ) → take a (then_items first items)
      ++ (map New characters ++ drop b (then_items first items))
      ≡ then_items first (take a items ++ (map New characters ++ drop b items))
  told_replaced items characters a b = simp (take-map, drop-map, map-append, told_new)

  pub then-changed : (items next : List Item) (change : ContentChange) → items_after units (text_of old first) items
      change ≡ Ok next → items_after units old (then_items first items) change ≡ Ok (then_items first next)
  then-changed items next change is = by_range change.range is
    where
      at_indexes : (start stop : Option ℕ) → replaced items change.text start stop ≡ Ok next
          → replaced (then_items first items) change.text start stop ≡ Ok (then_items first next)
      at_indexes None stop r = absurd (cc)
      at_indexes (Some a) None r = absurd (cc)
      at_indexes (Some a) (Some b) r = grind (arith, common_steps, nat_le, told_replaced, cases_Bool)

      by_range : (range : Option Range) → changed_in units (text_of old first) items change.text range ≡ Ok next
          → changed_in units old (then_items first items) change.text range ≡ Ok (then_items first next)
      by_range None r = let e : map New change.text ≡ next = cc in
          ap (λ (is : List Item). Ok is) (sym (told_new first change.text) ∙ ap (then_items first) e)
      by_range (Some range) r =
          subst (λ (met : List ℕ). replaced (then_items first items) change.text (denoted units met range.start)
          (denoted units met range.stop) ≡ Ok (then_items first next)) (sym (text_of-then old first items))
          (at_indexes (denoted units (text_of (text_of old first) items) range.start)
          (denoted units (text_of (text_of old first) items) range.stop) r)

  then-changes : (number : ℕ) (items last : List Item) (batch : List ContentChange)
      → after_changes units (text_of old first)
      number items batch ≡ Ok last → after_changes units old number (then_items first items) batch
      ≡ Ok (then_items first last)
  then-changes number items last batch is =
      by_changes units (text_of old first) (λ items batch. (n : ℕ)
      → after_changes units old n (then_items first items) batch ≡ Ok (then_items first last)) last (λ n. refl)
      (λ items next change batch made more n. rw (then-changed items next change made) (more (suc n)))
      number items batch is number

-- What two batches mean, one after the other.
pub then_means : (units : ℕ → ℕ) (old : List ℕ) (first second : List ContentChange) (items others : List Item)
    → meaning units old first ≡ Ok items → meaning units (text_of old items) second ≡ Ok others
    → meaning units old (first ++ second) ≡ Ok (then_items items others)
then_means units old first second items others is are =
    let on = after_changes-append units old 0 (plain old) items first second is in
    let error = then-changes units old items 0 (plain (text_of old items)) others second are in
    let here : after_changes units old 0 items second ≡ Ok (then_items items others) = rw then-plain at error in
    on ∙ any_number units old 0 (0 + length first) items (then_items items others) second here

-- Items that keep each CRLF whole do so composed.
pub then_keeps : (units : ℕ → ℕ) → ((c : ℕ) → 1 ≤ units c) → (old : List ℕ) (first second : List Item)
    → Keeps old 0 first → Keeps (text_of old first) 0 second → Keeps old 0 (then_items first second)
then_keeps units some old first second one two =
    meaning_keeps old units (canonical units old first ++ canonical units (text_of old first) second)
    (then_items first second)
    (then_means units old (canonical units old first) (canonical units (text_of old first) second) first second
    ((canonical_makes units some old first one).leaves 0)
    ((canonical_makes units some (text_of old first) second two).leaves 0))
