-- Batches, one after the other: what the second makes of what the first left.
use Rattle.lsp_edit.proofs.Prelude.{ℕ, suc, ◌≡◌, ◌+◌, ◌≤◌, true, false, nat_le, List, [], ◌∷◌, ◌++◌, length, map, take, drop, ⊎_elim, cases_Bool, leb-true, Option, Some, None, Result, Ok, Err, refl, ap, ◌∙◌, subst, arith, Range, denoted, IsWhole, denoted_whole, Item, New, text_of, ContentChange, Fault, Reversed, changed_in, items_after, after_changes, continue_with, replaced, RangesStay}

module _ (units : ℕ → ℕ) (old : List ℕ) where
  -- What a change makes of items is its text alone, or its text in place of the items between two indexes.
  pub by_range : (P : List Item → Type 0) (items next : List Item) (change : ContentChange)
      → items_after units old items change ≡ Ok next → P (map New change.text)
      → ((a b : ℕ) → IsWhole (text_of old items) a → IsWhole (text_of old items) b → a ≤ b
      → P (take a items ++ (map New change.text ++ drop b items))) → P next
  by_range P items next change is all part = ranged change.range is
    where
      at_indexes : (start stop : Option ℕ) → ((k : ℕ) → start ≡ Some k → IsWhole (text_of old items) k)
          → ((k : ℕ) → stop ≡ Some k → IsWhole (text_of old items) k) → replaced items change.text start stop ≡ Ok next
          → P next
      at_indexes None stop low high r = absurd (cc)
      at_indexes (Some a) None low high r = absurd (cc)
      at_indexes (Some a) (Some b) low high r =
          ⊎_elim
          (λ (e : nat_le a b ≡ true).
          let made : ◌≡◌ {A = Result (List Item) Fault} (Ok (take a items ++ (map New change.text ++ drop b items)))
          (Ok next) = rw e at r in
          let is_next : take a items ++ (map New change.text ++ drop b items) ≡ next = cc in
          subst P is_next (part a b (low a refl) (high b refl) (leb-true a b e)))
          (λ (e : nat_le a b ≡ false). absurd (let f : ◌≡◌ {A = Result (List Item) Fault} (Err Reversed) (Ok next) = rw
          e at r in cc))
          (cases_Bool (nat_le a b))

      ranged : (range : Option Range) → changed_in units old items change.text range ≡ Ok next → P next
      ranged None r = let e : map New change.text ≡ next = cc in subst P e all
      ranged (Some range) r =
          at_indexes
          (denoted units (text_of old items) range.start)
          (denoted units (text_of old items) range.stop)
          (denoted_whole units (text_of old items) range.start)
          (denoted_whole units (text_of old items) range.stop)
          r

  -- What holds of the last items and no change, and what each change passes back, holds of a batch that has a meaning.
  pub by_changes : (R : List Item → List ContentChange → Type 0) (last : List Item) → R last []
      → ((items next : List Item) (change : ContentChange) (batch : List ContentChange)
      → items_after units old items change ≡ Ok next → R next batch → R items (change ∷ batch))
      → (number : ℕ) (items : List Item) (batch : List ContentChange)
      → after_changes units old number items batch ≡ Ok last → R items batch
  by_changes R last none step number items [] is = let e : last ≡ items = cc in
      subst (λ (i : List Item). R i []) e none
  by_changes R last none step number items (change ∷ batch) is =
      rest_after (items_after units old items change) refl
      (λ next. by_changes R last none step (suc number) next batch) is
    where
      rest_after : (made : Result (List Item) Fault) → items_after units old items change ≡ made
          → ((next : List Item) → after_changes units old (suc number) next batch ≡ Ok last → R next batch)
          → continue_with (λ next. after_changes units old (suc number) next batch) number made ≡ Ok last
          → R items (change ∷ batch)
      rest_after (Ok next) e more r = step items next change batch e (more next r)
      rest_after (Err fault) e more r = absurd (cc)

  -- a batch after another goes on from what that left
  pub after_changes-append : (number : ℕ) (items middle : List Item) (first second : List ContentChange)
      → after_changes units old number items first ≡ Ok middle → after_changes units old number items (first ++ second)
      ≡ after_changes units old (number + length first) middle second
  after_changes-append number items middle first second is =
      by_changes (λ items batch. (n : ℕ) → after_changes units old n items (batch ++ second)
      ≡ after_changes units old (n + length batch) middle second) middle
      (λ n. let e : n ≡ n + 0 = omega arith in ap (λ (m : ℕ). after_changes units old m middle second) e)
      (λ items next change batch made more n.
      let e : suc n + length batch ≡ n + suc (length batch) = omega arith in
      rw made (more (suc n) ∙ ap (λ (m : ℕ). after_changes units old m middle second) e))
      number items first is number

  -- The number of the first change matters only for a fault.
  pub any_number : (number other : ℕ) (items last : List Item) (batch : List ContentChange)
      → after_changes units old number items batch ≡ Ok last → after_changes units old other items batch ≡ Ok last
  any_number number other items last batch is =
      by_changes (λ items batch. (n : ℕ) → after_changes units old n items batch ≡ Ok last) last (λ n. refl)
      (λ items next change batch made more n. rw made (more (suc n))) number items batch is other

  pub ranges_stay-append : (number : ℕ) (items middle : List Item) (first second : List ContentChange)
      → after_changes units old number items first ≡ Ok middle → RangesStay units old items first
      → RangesStay units old middle second → RangesStay units old items (first ++ second)
  ranges_stay-append number items middle [] second is stay more = let e : middle ≡ items = cc in
      subst (λ (m : List Item). RangesStay units old m second) e more
  ranges_stay-append number items middle (change ∷ first) second is stay more =
      (stay.0, λ next e. ranges_stay-append (suc number) next middle first second (rw e at is) (stay.1 next e) more)

  -- A batch makes one list of items of another, whatever came before, and its ranges denote what they denote in the old
  -- text.
  pub record Makes (items : List Item) (batch : List ContentChange) (made : List Item) : Type 0 where
    pub leaves : (number : ℕ) → after_changes units old number items batch ≡ Ok made
    pub ranges : RangesStay units old items batch

  pub makes_nothing : (items : List Item) → Makes items [] items
  makes_nothing items = record { leaves = λ number. refl; ranges = tt }

  pub makes_joined : (items middle last : List Item) (first second : List ContentChange) → Makes items first middle
      → Makes middle second last → Makes items (first ++ second) last
  makes_joined items middle last first second one two = record {
    leaves = λ number. after_changes-append number items middle first second (one.leaves number)
        ∙ two.leaves (number + length first);
    ranges = ranges_stay-append 0 items middle first second (one.leaves 0) one.ranges two.ranges;
  }
