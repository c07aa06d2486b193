-- The texts of a canonical batch hold scalar values, where the old text and the batch's texts do.
use Rattle.lsp_store.proofs.Prelude.{ℕ, zero, suc, ◌≡◌, ◌≤◌, true, cond, List, [], ◌∷◌, ◌++◌, length, map, take, drop, slice_index, sum_by, Option, Some, None, Result, Ok, Err, nat_le, refl, arith, ⊤, and_parts, and_from, cases_Bool, sum_by-cons, all_scalars, numbers_from, Item, Old, New, plain, text_of, ContentChange, Fault, InsideStart, InsideStop, changed_in, items_after, after_changes, continue_with, meaning, canonical, IsCanonical, AreTexts, common_steps}
use Rattle.std.proofs.Math.Utf8.{scalar}
use Rattle.lsp_text.specs.declared.position.Range.{Range}
use Rattle.lsp_edit.specs.inside.Batch.{replaced}

-- the new characters among items are scalar values
abbrev pub NewAreScalar : List Item → Type 0
NewAreScalar [] = ⊤
NewAreScalar (Old index ∷ items) = NewAreScalar items
NewAreScalar (New character ∷ items) = (scalar character ≡ true) × NewAreScalar items

scalar-append : (xs ys : List Item) → NewAreScalar xs → NewAreScalar ys → NewAreScalar (xs ++ ys)
scalar-append [] ys p q = q
scalar-append (Old index ∷ xs) ys p q = scalar-append xs ys p q
scalar-append (New character ∷ xs) ys p q = (p.0, scalar-append xs ys p.1 q)

scalar-take : (n : ℕ) (items : List Item) → NewAreScalar items → NewAreScalar (take n items)
scalar-take (suc n) (Old index ∷ items) p = scalar-take n items p
scalar-take (suc n) (New character ∷ items) p = (p.0, scalar-take n items p.1)
scalar-take _ _ p = tt

scalar-drop : (n : ℕ) (items : List Item) → NewAreScalar items → NewAreScalar (drop n items)
scalar-drop zero items p = p
scalar-drop (suc n) [] p = tt
scalar-drop (suc n) (Old index ∷ items) p = scalar-drop n items p
scalar-drop (suc n) (New character ∷ items) p = scalar-drop n items p.1

scalar-new : (characters : List ℕ) → all_scalars characters ≡ true → NewAreScalar (map New characters)
scalar-new [] all = tt
scalar-new (c ∷ characters) all = let parts = and_parts (scalar c) (all_scalars characters) all in
    (parts.0, scalar-new characters parts.1)

scalar-old : (indexes : List ℕ) → NewAreScalar (map Old indexes)
scalar-old [] = tt
scalar-old (index ∷ indexes) = scalar-old indexes

scalar-replaced : (items : List Item) (characters : List ℕ) (start stop : Option ℕ) (next : List Item)
    → NewAreScalar items → all_scalars characters ≡ true → replaced items characters start stop ≡ Ok next
    → NewAreScalar next
scalar-replaced items characters None stop next p all e =
    let bad : ◌≡◌ {A = Result (List Item) Fault} (Err InsideStart) (Ok next) = e in absurd (cc)
scalar-replaced items characters (Some start) None next p all e =
    let bad : ◌≡◌ {A = Result (List Item) Fault} (Err InsideStop) (Ok next) = e in absurd (cc)
scalar-replaced items characters (Some start) (Some stop) next p all e =
    grind (arith, common_steps, nat_le, scalar-append, scalar-take, scalar-new, scalar-drop, cases_Bool)

scalar-changed : (units : ℕ → ℕ) (old : List ℕ) (items : List Item) (characters : List ℕ) (range : Option Range)
    (next : List Item) → NewAreScalar items → all_scalars characters ≡ true → changed_in units old items characters
    range ≡ Ok next → NewAreScalar next
scalar-changed units old items characters None next p all e = grind (arith, common_steps, scalar-new)
scalar-changed units old items characters (Some range) next p all e = grind (arith, common_steps, scalar-replaced)

scalar-changes : (units : ℕ → ℕ) (old : List ℕ) (number : ℕ) (items : List Item) (batch : List ContentChange)
    (next : List Item)
    → NewAreScalar items → AreTexts batch → after_changes units old number items batch ≡ Ok next → NewAreScalar next
scalar-changes units old number items [] next p texts e = grind (arith, common_steps)
scalar-changes units old number items (change ∷ batch) next p texts e =
    by (λ (made : List Item) (q : NewAreScalar made) (f : after_changes units old (suc number) made batch ≡ Ok next).
    scalar-changes units old (suc number) made batch next q texts.1 f) (items_after units old items change) refl e
  where
    by : ((made : List Item) → NewAreScalar made → after_changes units old (suc number) made batch ≡ Ok next
        → NewAreScalar next) → (r : Result (List Item) Fault) → items_after units old items change ≡ r
        → continue_with (λ made. after_changes units old (suc number) made batch) number r ≡ Ok next → NewAreScalar next
    by rest (Ok made) is e = rest made (scalar-changed units old items change.text change.range made p texts.0 is) e
    by rest (Err fault) is e = let bad : ◌≡◌ {A = Result (List Item) (ℕ × Fault)} (Err (number, fault)) (Ok next) = e in
        absurd (cc)

pub scalar-meaning : (units : ℕ → ℕ) (old : List ℕ) (batch : List ContentChange) (items : List Item) → AreTexts batch
    → meaning units old batch ≡ Ok items → NewAreScalar items
scalar-meaning units old batch items texts e =
    scalar-changes units old 0 (plain old) batch items (scalar-old (numbers_from 0 (length old))) texts e

scalar-at : (old : List ℕ) (index : ℕ) → all_scalars old ≡ true → scalar (slice_index old index) ≡ true
scalar-at [] index all = refl
scalar-at (c ∷ old) zero all = (and_parts (scalar c) (all_scalars old) all).0
scalar-at (c ∷ old) (suc index) all = scalar-at old index (and_parts (scalar c) (all_scalars old) all).1

pub scalar-text : (old : List ℕ) (items : List Item) → all_scalars old ≡ true → NewAreScalar items
    → all_scalars (text_of old items) ≡ true
scalar-text old [] all p = refl
scalar-text old (Old index ∷ items) all p = and_from (scalar (slice_index old index)) (all_scalars (text_of old items))
    (scalar-at old index all) (scalar-text old items all p)
scalar-text old (New character ∷ items) all p =
    and_from (scalar character) (all_scalars (text_of old items)) p.0 (scalar-text old items all p.1)

-- what is no scalar value weighs one
abbrev stray : ℕ → ℕ
stray c = cond (scalar c) 0 1

none_stray : (text : List ℕ) → all_scalars text ≡ true → sum_by stray text ≡ 0
none_stray [] all = refl
none_stray (c ∷ text) all =
    let parts = and_parts (scalar c) (all_scalars text) all in
    let one : stray c ≡ 0 = rw parts.0 refl in
    omega (arith, sum_by-cons stray c text, none_stray text parts.1, one)

all_from_none : (text : List ℕ) → sum_by stray text ≤ 0 → all_scalars text ≡ true
all_from_none [] none = refl
all_from_none (c ∷ text) none =
    grind (
      arith,
      common_steps,
      scalar,
      and_from,
      sum_by-cons,
      cases_Bool,
      (all_from_none text (omega (arith, none, sum_by-cons stray c text))),
    )

texts_from_none : (batch : List ContentChange) → sum_by (λ change. sum_by stray change.text) batch ≤ 0 → AreTexts batch
texts_from_none [] none = tt
texts_from_none (change ∷ batch) none =
    let sum = sum_by-cons (λ (e : ContentChange). sum_by stray e.text) change batch in
    (all_from_none change.text (omega (arith, none, sum)), texts_from_none batch (omega (arith, none, sum)))

pub canonical_texts : (units : ℕ → ℕ) (old : List ℕ) (batch : List ContentChange) (items : List Item)
    → IsCanonical units old batch items → all_scalars old ≡ true → AreTexts batch → meaning units old batch ≡ Ok items
    → AreTexts (canonical units old items)
canonical_texts units old batch items law all texts means =
    texts_from_none (canonical units old items) (omega (
      arith,
      law.short stray,
      none_stray (text_of old items) (scalar-text old items all (scalar-meaning units old batch items texts means)),
    ))
