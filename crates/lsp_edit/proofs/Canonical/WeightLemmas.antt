-- The texts of a canonical batch are together the new characters, so they are no longer than the final text, whatever a
-- character
-- weighs.
use Rattle.lsp_edit.proofs.Prelude.{gap_at, ℕ, suc, ◌≡◌, ◌+◌, ◌≤◌, nat_lt, List, [], ◌∷◌, ◌++◌, length, map, filter, sum_by, refl, arith, cases_Bool, or_parts, ltb-false, nil_from_length, sum_by-cons, sum_by-append, Item, Old, New, text_of, ContentChange, Gap, gaps_from, gaps, is_changed, change_of_gap, canonical, common_steps}
use Rattle.std.proofs.lemmas.List.Sorted.{sum_by-IsPermutation, IsPermutation-reverse}

module _ (weight : ℕ → ℕ) where
  abbrev gap_weight : Gap → ℕ
  gap_weight g = sum_by weight g.text

  abbrev change_weight : ContentChange → ℕ
  change_weight e = sum_by weight e.text

  -- what the new characters among the items weigh
  abbrev new_weight : List Item → ℕ
  new_weight [] = 0
  new_weight (Old index ∷ items) = new_weight items
  new_weight (New character ∷ items) = weight character + new_weight items

  gaps_weigh : (old : List ℕ) (low : ℕ) (text : List ℕ) (items : List Item)
      → sum_by gap_weight (gaps_from low (length old) text items) ≡ sum_by weight text + new_weight items
  gaps_weigh old low text [] = sum_by-cons gap_weight (gap_at low (length old) text) []
  gaps_weigh old low text (Old index ∷ items) =
      grind (arith, common_steps, sum_by, sum_by-cons, gap_at, (gaps_weigh old (suc index) [] items))
  gaps_weigh old low text (New character ∷ items) =
      grind (arith, common_steps, sum_by-append, sum_by-cons, (gaps_weigh old low (text ++ character ∷ []) items))

  changed_weigh : (gs : List Gap) → sum_by gap_weight (filter is_changed gs) ≡ sum_by gap_weight gs
  changed_weigh [] = refl
  changed_weigh (g ∷ gs) =
      grind (
        arith,
        common_steps,
        sum_by-cons,
        cases_Bool,
        sum_by,
        ltb-false,
        or_parts,
        nat_lt,
        nil_from_length,
        (changed_weigh gs),
      )

  changes_weigh : (units : ℕ → ℕ) (old : List ℕ) (gs : List Gap) → sum_by change_weight (map
      (change_of_gap units old) gs) ≡ sum_by gap_weight gs
  changes_weigh units old [] = refl
  changes_weigh units old (g ∷ gs) = grind (arith, common_steps, sum_by-cons, (changes_weigh units old gs))

  new_lighter : (old : List ℕ) (items : List Item) → new_weight items ≤ sum_by weight (text_of old items)
  new_lighter old [] = omega arith
  new_lighter old (Old index ∷ items) = grind (arith, common_steps, sum_by-cons, (new_lighter old items))
  new_lighter old (New character ∷ items) =
      omega (arith, sum_by-cons weight character (text_of old items), new_lighter old items)

  pub no_longer : (units : ℕ → ℕ) (old : List ℕ) (items : List Item) → sum_by (λ change. sum_by weight change.text)
      (canonical units old items) ≤ sum_by weight (text_of old items)
  no_longer units old items =
      let turned =
      sum_by-IsPermutation change_weight (map (change_of_gap units old) (filter is_changed (gaps old items)))
      (canonical units old items)
      (IsPermutation-reverse (map (change_of_gap units old) (filter is_changed (gaps old items)))) in
      let none : sum_by weight [] ≡ 0 = refl in
      omega (
        arith,
        turned,
        changes_weigh units old (filter is_changed (gaps old items)),
        changed_weigh (gaps old items),
        gaps_weigh old 0 [] items,
        new_lighter old items,
      )
