-- Each change adds at most one changed gap, so the canonical batch has no more changes than the batch.
use Rattle.lsp_edit.proofs.Prelude.{gap_at, ℕ, zero, suc, ◌≡◌, ◌+◌, ◌-◌, ◌≤◌, Bool, true, false, ◌||◌, nat_lt, cond, List, [], ◌∷◌, ◌++◌, length, map, filter, take, drop, Ok, refl, sym, ap, ◌∙◌, subst, arith, append-nil, le-ltb, lt-ltb, length-append, length-map, length-reverse, numbers_from, Item, Old, New, plain, ContentChange, items_after, after_changes, meaning, Gap, gaps_from, gaps, is_changed, change_of_gap, canonical, common_steps, split_between}
use Rattle.lsp_edit.proofs.Batches.BatchLemmas.{by_range, by_changes}

abbrev one_if : Bool → ℕ
one_if true = 1
one_if false = 0

-- How many gaps are changed, behind the old index `low`, in an old text of `size` characters, where `new` says whether
-- a new
-- character came before in the first gap.
abbrev hunks : ℕ → Bool → ℕ → List Item → ℕ
hunks size new low [] = one_if (nat_lt low size || new)
hunks size new low (Old index ∷ items) = one_if (nat_lt low index || new) + hunks size false (suc index) items
hunks size new low (New character ∷ items) = hunks size true low items

module _ (size : ℕ) where
  one_if_new : (b : Bool) → one_if (b || true) ≡ 1
  one_if_new true = refl
  one_if_new false = refl

  one_if_rises : (b new : Bool) → (one_if (b || new) ≤ 1) × (one_if (b || new) ≤ one_if (b || true))
  one_if_rises true true = (omega arith, omega arith)
  one_if_rises true false = (omega arith, omega arith)
  one_if_rises false true = (omega arith, omega arith)
  one_if_rises false false = (omega arith, omega arith)

  -- a new character in the first gap counts once, wherever that gap begins
  new_rises : (new : Bool) (low : ℕ) (items : List Item) → (hunks size new low items ≤ hunks size true low items)
      × (hunks size true low items ≤ suc (hunks size new low items))
  new_rises new low [] = grind (arith, common_steps, one_if_rises, nat_lt, one_if_new)
  new_rises new low (Old index ∷ items) = grind (arith, common_steps, one_if_rises, nat_lt, one_if_new)
  new_rises new low (New character ∷ items) = (omega arith, omega arith)

  new_anywhere : (low other : ℕ) (items : List Item) → hunks size true low items ≡ hunks size true other items
  new_anywhere low other [] = one_if_new (nat_lt low size) ∙ sym (one_if_new (nat_lt other size))
  new_anywhere low other (Old index ∷ items) =
      omega (arith, one_if_new (nat_lt low index), one_if_new (nat_lt other index))
  new_anywhere low other (New character ∷ items) = new_anywhere low other items

  put_in : (new : Bool) (low : ℕ) (characters : List ℕ) (items : List Item)
      → hunks size new low (map New characters ++ items) ≤ hunks size true low items
  put_in new low [] items = (new_rises new low items).0
  put_in new low (c ∷ characters) items = put_in true low characters items

  taken_out : (new : Bool) (low : ℕ) (middle rest : List Item) → hunks size true low rest
      ≤ suc (hunks size new low (middle ++ rest))
  taken_out new low [] rest = (new_rises new low rest).1
  taken_out new low (Old index ∷ middle) rest =
      grind (arith, common_steps, new_anywhere, (taken_out false (suc index) middle rest))
  taken_out new low (New character ∷ middle) rest = taken_out true low middle rest

  one_more : (new : Bool) (low : ℕ) (front items others : List Item)
      → ((b : Bool) (l : ℕ) → hunks size b l items ≤ suc (hunks size b l others)) → hunks size new low (front ++ items)
      ≤ suc (hunks size new low (front ++ others))
  one_more new low [] items others more = more new low
  one_more new low (Old index ∷ front) items others more = grind (
    arith,
    common_steps,
    (one_more false (suc index) front items others more),
  )
  one_more new low (New character ∷ front) items others more = one_more true low front items others more

  replaced_adds : (items : List Item) (characters : List ℕ) (start stop : ℕ) → start ≤ stop
      → hunks size false 0 (take start items ++ (map New characters ++ drop stop items))
      ≤ suc (hunks size false 0 items)
  replaced_adds items characters start stop order =
      subst (λ (is : List Item). hunks size false 0 (take start items ++ (map New characters ++ drop stop items))
      ≤ suc (hunks size false 0 is)) (split_between items start stop order)
      (one_more false 0 (take start items) (map New characters ++ drop stop items)
      (take (stop - start) (drop start items) ++ drop stop items) (λ b l.
      grind (arith, common_steps, put_in, taken_out)))

  all_new : (characters : List ℕ) (items : List Item) → hunks size false 0 (map New characters)
      ≤ suc (hunks size false 0 items)
  all_new characters items =
      let p : hunks size false 0 (map New characters ++ []) ≤ hunks size true 0 [] = put_in false 0 characters [] in
      let q = ap (hunks size false 0) (append-nil (map New characters)) in
      omega (arith, one_if_new (nat_lt 0 size))

  none_at_first : (low count : ℕ) → low + count ≡ size → hunks size false low (map Old (numbers_from low count)) ≡ 0
  none_at_first low zero all = let e : low ≡ size = omega arith in rw (le-ltb low size (omega arith)) refl
  none_at_first low (suc count) all =
      rw (le-ltb low low (omega arith)) (omega (arith, none_at_first (suc low) count (omega arith)))

  module _ (units : ℕ → ℕ) (old : List ℕ) where
    change_adds : (items next : List Item) (change : ContentChange) → items_after units old items change ≡ Ok next
        → hunks size false 0 next ≤ suc (hunks size false 0 items)
    change_adds items next change is =
        by_range units old (λ (made : List Item). hunks size false 0 made ≤ suc (hunks size false 0 items)) items next
        change is (all_new change.text items) (λ a b low high order. replaced_adds items change.text a b order)

    changes_add : (number : ℕ) (items last : List Item) (batch : List ContentChange)
        → after_changes units old number items batch
        ≡ Ok last → hunks size false 0 last ≤ hunks size false 0 items + length batch
    changes_add number items last batch is =
        by_changes units old (λ items batch. hunks size false 0 last ≤ hunks size false 0 items + length batch) last
        (omega arith) (λ items next change batch made more. omega (arith, change_adds items next change made, more))
        number items batch is

one_longer : (b : Bool) (g : Gap) (gs : List Gap) → length (cond b (g ∷ gs) gs) ≡ one_if b + length gs
one_longer true g gs = omega arith
one_longer false g gs = omega arith

hunks_are : (len low : ℕ) (text : List ℕ) (items : List Item)
    → length (filter is_changed (gaps_from low len text items)) ≡ hunks len (nat_lt 0 (length text)) low items
hunks_are len low text [] = one_longer (is_changed (gap_at low len text)) (gap_at low len text) []
    ∙ omega arith
hunks_are len low text (Old index ∷ items) =
    grind (arith, common_steps, one_longer, gap_at, (hunks_are len (suc index) [] items))
hunks_are len low text (New character ∷ items) =
    grind (arith, common_steps, nat_lt, lt-ltb, length-append, (hunks_are len low (text ++ character ∷ []) items))

pub no_more_changes : (units : ℕ → ℕ) (old : List ℕ) (batch : List ContentChange) (items : List Item)
    → meaning units old batch ≡ Ok items → length (canonical units old items) ≤ length batch
no_more_changes units old batch items is =
    let changed : List Gap = filter is_changed (gaps old items) in
    omega (
      arith,
      length-reverse (map (change_of_gap units old) changed),
      length-map changed (change_of_gap units old),
      hunks_are (length old) 0 [] items,
      none_at_first (length old) 0 (length old) (omega arith),
      changes_add (length old) units old 0 (plain old) items batch is,
    )
