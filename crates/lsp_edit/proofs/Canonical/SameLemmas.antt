-- Two batches have equal canonical batches exactly if they do the same, and the canonical batch is its own.
use Rattle.lsp_edit.proofs.Prelude.{ℕ, ◌≡◌, ◌≤◌, ◌↔◌, List, [], ◌∷◌, Result, Ok, refl, sym, ap, ap₂, ◌∙◌, Item, Old, New, ContentChange, Fault, meaning, kept, gap_texts, put_first, DoTheSame, canonical, arith, common_steps}
use Rattle.lsp_edit.proofs.Canonical.KeepsLemmas.{meaning_keeps}
use Rattle.lsp_edit.proofs.Canonical.RebuiltLemmas.{canonical_makes}

-- There is a first gap text.
some_text : (items : List Item) → (first : List ℕ) × (rest : List (List ℕ)) × (gap_texts items ≡ first ∷ rest)
some_text [] = ([], [], refl)
some_text (Old index ∷ items) = ([], gap_texts items, refl)
some_text (New character ∷ items) = let s = some_text items in
    (character ∷ s.0, s.1, ap (put_first character) s.2)

new_first : (character : ℕ) (items : List Item) (texts : List (List ℕ))
    → [] ∷ texts ≡ put_first character (gap_texts items) → ⊥
new_first character items texts e =
    let s = some_text items in
    let f : [] ∷ texts ≡ (character ∷ s.0) ∷ s.1 = e ∙ ap (put_first character) s.2 in absurd (cc)

-- The kept characters and the gap texts are all that there is of items.
same_items : (items others : List Item) → kept items ≡ kept others → gap_texts items ≡ gap_texts others
    → items ≡ others
same_items [] [] k t = refl
same_items (Old i ∷ items) (Old j ∷ others) k t =
    let first : i ≡ j = cc in
    let same_kept : kept items ≡ kept others = cc in
    let same_texts : gap_texts items ≡ gap_texts others = cc in
    ap₂ (λ (n : ℕ) (more : List Item). Old n ∷ more) first (same_items items others same_kept same_texts)
same_items (New c ∷ items) (New d ∷ others) k t =
    let s = some_text items in
    let o = some_text others in
    let u = sym (ap (put_first c) s.2) ∙ (t ∙ ap (put_first d) o.2) in
    let first : c ≡ d = cc in
    let same_texts : gap_texts items ≡ gap_texts others = cc (s.2, o.2) in
    ap₂ (λ (n : ℕ) (more : List Item). New n ∷ more) first (same_items items others k same_texts)
same_items items others k t = absurd (grind (arith, common_steps, new_first))

module _ (units : ℕ → ℕ) (some : (c : ℕ) → 1 ≤ units c) (old : List ℕ) where
  -- the canonical batch of what a batch means has the same meaning
  pub canonical_means : (batch : List ContentChange) (items : List Item) → meaning units old batch ≡ Ok items
      → meaning units old (canonical units old items) ≡ Ok items
  canonical_means batch items is =
      (canonical_makes units some old items (meaning_keeps old units batch items is)).leaves 0

  pub equal_exactly : (batch other : List ContentChange) (items others : List Item) → meaning units old batch ≡ Ok items
      → meaning units old other ≡ Ok others → (canonical units old items ≡ canonical units old others)
      ↔ DoTheSame items others
  equal_exactly batch other items others is are = (
    λ same.
        let one : meaning units old (canonical units old items) ≡ Ok items = canonical_means batch items is in
        let two : meaning units old (canonical units old others) ≡ Ok others = canonical_means other others are in
        let both = ap (meaning units old) same in
        let made : ◌≡◌ {A = Result (List Item) (ℕ × Fault)} (Ok items) (Ok others) = cc in
        let e : items ≡ others = cc in
        record { same_kept = ap kept e; same_texts = ap gap_texts e },
    λ same. ap (canonical units old) (same_items items others same.same_kept same.same_texts),
  )

  -- the canonical batch of the canonical batch is itself
  pub canonical_again : (batch : List ContentChange) (items again : List Item) → meaning units old batch ≡ Ok items
      → meaning units old (canonical units old items) ≡ Ok again → canonical units old again ≡ canonical units old items
  canonical_again batch items again is more =
      let one : meaning units old (canonical units old items) ≡ Ok items = canonical_means batch items is in
      let made : ◌≡◌ {A = Result (List Item) (ℕ × Fault)} (Ok again) (Ok items) = cc in
      let e : again ≡ items = cc in
      ap (canonical units old) e
