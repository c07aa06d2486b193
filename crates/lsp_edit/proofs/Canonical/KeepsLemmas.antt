-- What a batch means keeps both characters of each CRLF of the old text, or neither.
use Rattle.lsp_edit.proofs.Prelude.{ℕ, zero, suc, ◌≡◌, ◌+◌, ◌-◌, ◌≤◌, false, List, [], ◌∷◌, ◌++◌, length, map, take, drop, Ok, inl, inr, refl, sym, subst, arith, take-append-drop, take-add, length-take-le, length-map, numbers_from, splits_crlf, splits_none_past, Item, Old, New, plain, character_of, text_of, ContentChange, items_after, after_changes, meaning, Keeps, common_steps, split_between, ◌∙◌, ap}
use Rattle.lsp_edit.proofs.Batches.BatchLemmas.{by_range, by_changes}

-- The index behind the last kept character, where that before the items was `low`.
abbrev pub after : ℕ → List Item → ℕ
after low [] = low
after low (Old index ∷ items) = after (suc index) items
after low (New character ∷ items) = after low items

pub after-append : (low : ℕ) (front rest : List Item) → after low (front ++ rest) ≡ after (after low front) rest
after-append low [] rest = refl
after-append low (Old index ∷ front) rest = after-append (suc index) front rest
after-append low (New character ∷ front) rest = after-append low front rest

-- The old text keeps itself.
pub row_keeps : (old : List ℕ) (low count : ℕ) → low + count ≡ length old
    → Keeps old low (map Old (numbers_from low count))
row_keeps old low zero all = (omega arith, splits_none_past old low (omega arith))
row_keeps old low (suc count) all = (omega arith, omega arith, inl refl, row_keeps old (suc low) count (omega arith))

pub plain_keeps : (old : List ℕ) → Keeps old 0 (plain old)
plain_keeps old = row_keeps old 0 (length old) (omega arith)

module _ (old : List ℕ) where
  -- from an earlier index on, if neither splits a CRLF
  pub keeps_from_lower : (low high : ℕ) (items : List Item) → low ≤ high → splits_crlf old low ≡ false
      → splits_crlf old high ≡ false → Keeps old high items → Keeps old low items
  keeps_from_lower low high [] order whole high_whole k = (omega arith, whole)
  keeps_from_lower low high (New character ∷ items) order whole high_whole k =
      (whole, keeps_from_lower low high items order whole high_whole k.1)
  keeps_from_lower low high (Old index ∷ items) order whole high_whole k = grind (arith, common_steps, inr)

  pub new_keeps : (low : ℕ) (characters : List ℕ) (items : List Item) → splits_crlf old low ≡ false
      → Keeps old low items → Keeps old low (map New characters ++ items)
  new_keeps low [] items whole k = k
  new_keeps low (c ∷ characters) items whole k = (whole, new_keeps low characters items whole k)

  pub row_rest : (low count : ℕ) (items : List Item) → Keeps old low (map Old (numbers_from low count) ++ items)
      → Keeps old (low + count) items
  row_rest low zero items k = let e : low ≡ low + 0 = omega arith in subst (λ (n : ℕ). Keeps old n items) e k
  row_rest low (suc count) items k = let e : suc low + count ≡ low + suc count = omega arith in
      subst (λ (n : ℕ). Keeps old n items) e (row_rest (suc low) count items k.3)

  pub only_new_keeps : (characters : List ℕ) → Keeps old 0 (map New characters)
  only_new_keeps [] = (omega arith, refl)
  only_new_keeps (c ∷ characters) = (refl, only_new_keeps characters)

  pub rest_keeps : (low : ℕ) (front rest : List Item) → Keeps old low (front ++ rest) → Keeps old (after low front) rest
  rest_keeps low [] rest k = k
  rest_keeps low (Old index ∷ front) rest k = rest_keeps (suc index) front rest k.3
  rest_keeps low (New character ∷ front) rest k = rest_keeps low front rest k.1

  pub other_rest_keeps : (low : ℕ) (front rest other : List Item) → Keeps old low (front ++ rest)
      → Keeps old (after low front) other → Keeps old low (front ++ other)
  other_rest_keeps low [] rest other k o = o
  other_rest_keeps low (Old index ∷ front) rest other k o =
      (k.0, k.1, k.2, other_rest_keeps (suc index) front rest other k.3 o)
  other_rest_keeps low (New character ∷ front) rest other k o = (k.0, other_rest_keeps low front rest other k.1 o)

  pub after_later : (low : ℕ) (front rest : List Item) → Keeps old low (front ++ rest) → low ≤ after low front
  after_later low [] rest k = omega arith
  after_later low (Old index ∷ front) rest k = let l = after_later (suc index) front rest k.3 in omega (arith, k.0)
  after_later low (New character ∷ front) rest k = after_later low front rest k.1

  -- An index of the items' text that splits no CRLF of that text stands behind an index that splits none of the old
  -- text.
  last_whole : (low : ℕ) (item : Item) (rest : List Item) → Keeps old low (item ∷ rest)
      → splits_crlf (text_of old (item ∷ rest)) 1 ≡ false → splits_crlf old (after low (item ∷ [])) ≡ false
  last_whole low (New character) rest k whole = k.0
  last_whole low (Old index) [] k whole = k.3.1
  last_whole low (Old index) (New character ∷ rest) k whole = k.3.0
  last_whole low (Old index) (Old next ∷ rest) k whole = grind (arith, common_steps)

  pub place_whole : (low : ℕ) (item : Item) (front rest : List Item) → Keeps old low (item ∷ front ++ rest)
      → splits_crlf (text_of old (item ∷ front ++ rest)) (suc (length front)) ≡ false
      → splits_crlf old (after low (item ∷ front)) ≡ false
  place_whole low item [] rest k whole = last_whole low item rest k whole
  place_whole low (Old index) (next ∷ front) rest k whole = place_whole (suc index) next front rest k.3 whole
  place_whole low (New character) (next ∷ front) rest k whole = place_whole low next front rest k.1 whole

  place_at : (item : Item) (front rest items : List Item) (n : ℕ) → front ++ rest ≡ items → length front ≡ n
      → Keeps old 0 (item ∷ items) → splits_crlf (text_of old (item ∷ items)) (suc n) ≡ false
      → splits_crlf old (after 0 (item ∷ front)) ≡ false
  place_at item front rest items n all here k whole = grind (arith, common_steps, place_whole)

  pub index_whole : (items : List Item) (k : ℕ) → Keeps old 0 items → k ≤ length items
      → splits_crlf (text_of old items) k ≡ false → splits_crlf old (after 0 (take k items)) ≡ false
  index_whole items zero keeps within whole = refl
  index_whole [] (suc k) keeps within whole = absurd (omega arith)
  index_whole (item ∷ items) (suc k) keeps within whole =
      place_at item (take k items) (drop k items) items k (take-append-drop k items)
      (length-take-le k items (omega arith)) keeps whole

  -- Items between two indexes that split no CRLF may be replaced by new ones.
  pub replaced_keeps : (items : List Item) (characters : List ℕ) (start stop : ℕ) → Keeps old 0 items → start ≤ stop
      → stop ≤ length items → splits_crlf (text_of old items) start ≡ false → splits_crlf (text_of old items) stop
      ≡ false → Keeps old 0 (take start items ++ (map New characters ++ drop stop items))
  replaced_keeps items characters start stop keeps order within start_whole stop_whole =
      let front : List Item = take start items in
      let middle : List Item = take (stop - start) (drop start items) in
      let back : List Item = drop stop items in
      let split : Keeps old 0 (front ++ (middle ++ back)) =
      subst (Keeps old 0) (sym (split_between items start stop order)) keeps in
      let rest : Keeps old (after 0 front) (middle ++ back) = rest_keeps 0 front (middle ++ back) split in
      let e : start + (stop - start) ≡ stop = omega arith in
      let last = ap (after 0) (rw e at (take-add start (stop - start) items)) ∙ after-append 0 front middle in
      let low_whole = index_whole items start keeps (omega arith) start_whole in
      let high_whole : splits_crlf old (after (after 0 front) middle) ≡ false =
      subst (λ (n : ℕ). splits_crlf old n ≡ false) last (index_whole items stop keeps within stop_whole) in
      other_rest_keeps 0 front (middle ++ back) (map New characters ++ back) split
      (new_keeps (after 0 front) characters back low_whole
      (keeps_from_lower (after 0 front) (after (after 0 front) middle) back
      (after_later (after 0 front) middle back rest) low_whole high_whole
      (rest_keeps (after 0 front) middle back rest)))

  -- A change keeps what the items before it keep.
  pub after_change_keeps : (units : ℕ → ℕ) (items next : List Item) (change : ContentChange) → Keeps old 0 items
      → items_after units old items change ≡ Ok next → Keeps old 0 next
  after_change_keeps units items next change keeps is =
      by_range units old (Keeps old 0) items next change is (only_new_keeps change.text)
      (λ a b low high order. replaced_keeps items change.text a b keeps order
      (omega (arith, high.within, length-map items (character_of old))) low.whole high.whole)

  pub after_changes_keeps : (units : ℕ → ℕ) (number : ℕ) (items last : List Item) (batch : List ContentChange)
      → Keeps old 0 items → after_changes units old number items batch ≡ Ok last → Keeps old 0 last
  after_changes_keeps units number items last batch keeps is =
      by_changes units old (λ items batch. Keeps old 0 items → Keeps old 0 last) last (λ k. k)
      (λ items next change batch made more k. more (after_change_keeps units items next change k made))
      number items batch is keeps

  -- What a batch means keeps both characters of each CRLF or neither.
  pub meaning_keeps : (units : ℕ → ℕ) (batch : List ContentChange) (items : List Item)
      → meaning units old batch ≡ Ok items → Keeps old 0 items
  meaning_keeps units batch items is = after_changes_keeps units 0 (plain old) items batch (plain_keeps old) is
