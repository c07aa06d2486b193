-- The ends of the gaps of items that keep each CRLF whole.
use Rattle.lsp_edit.proofs.Prelude.{ℕ, suc, ◌≡◌, ◌<◌, true, false, nat_lt, List, [], ◌∷◌, ◌++◌, length, refl, arith, ltb-true, or_cases, splits_crlf, splits_none_past, Item, Old, New, gaps_from, gaps, is_changed, Keeps, gap_at, AllHaveExactEnds, common_steps}

-- Both ends of a changed gap split no CRLF, where the items keep each CRLF whole.
pub ends_from : (old : List ℕ) (low : ℕ) (text : List ℕ) (items : List Item)
    → (0 < length text → splits_crlf old low ≡ false) → Keeps old low items
    → AllHaveExactEnds old (gaps_from low (length old) text items)
ends_from old low text [] whole keeps = grind (arith, common_steps, splits_none_past)
ends_from old low text (Old index ∷ items) whole keeps = (
  grind (arith, common_steps),
  ends_from old (suc index) [] items (λ h. absurd (omega arith)) keeps.3,
)
  where
    low_whole : is_changed (gap_at low index text) ≡ true → splits_crlf old low ≡ false
    low_whole changed = grind (arith, common_steps, nat_lt, ltb-true, or_cases)

    high_whole : splits_crlf old low ≡ false → splits_crlf old index ≡ false
    high_whole e = grind (arith, common_steps)
ends_from old low text (New character ∷ items) whole keeps =
    ends_from old low (text ++ character ∷ []) items (λ h. keeps.0) keeps.1

pub ends_exact : (old : List ℕ) (items : List Item) → Keeps old 0 items → AllHaveExactEnds old (gaps old items)
ends_exact old items keeps = ends_from old 0 [] items (λ h. refl) keeps
