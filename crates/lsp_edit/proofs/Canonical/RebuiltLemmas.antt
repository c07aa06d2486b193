-- The canonical batch of items makes them of the old text again, and each of its ranges denotes in the text that it
-- meets what it
-- denotes in the old text.
use Rattle.lsp_edit.proofs.Prelude.{gap_at, change_at, ℕ, zero, suc, ◌≡◌, ◌+◌, ◌-◌, ◌≤◌, true, false, nat_lt, List, [], ◌∷◌, ◌++◌, length, map, reverse, filter, take, drop, slice_index, Some, Ok, ⊎_elim, refl, sym, ap, ◌∙◌, subst, arith, append_assoc, append-nil, take_at, drop_at, take-take, drop-cons, length-take-le, le-leb, cases_Bool, cases_eq, or_parts, ltb-false, nil_from_length, get_or-append-add, map-append, length-map, length-append, get_or_past, reverse-append, numbers_from, splits_crlf, exact_position, denoted, exact_denotes, Item, Old, New, plain, character_of, text_of, ContentChange, items_after, replaced, Gap, gaps_from, is_changed, change_of_gap, canonical, Keeps, HasExactEnds, AllHaveExactEnds, common_steps, numbers_split}
use Rattle.lsp_text.proofs.Positions.NearLemmas.{AgreeBelow, agree_from_take, splits_near, exact_near}
use Rattle.lsp_edit.proofs.Canonical.GapLemmas.{ends_exact}
use Rattle.lsp_edit.proofs.Batches.BatchLemmas.{Makes, makes_nothing, makes_joined}

-- the old characters before an index, as items
abbrev pub plain_to : ℕ → List Item
plain_to high = map Old (numbers_from 0 high)

pub numbers_between : (a b c : ℕ) → a ≤ b → b ≤ c
    → numbers_from a (c - a) ≡ numbers_from a (b - a) ++ numbers_from b (c - b)
numbers_between a b c low high =
    let n : (b - a) + (c - b) ≡ c - a = omega arith in
    let m : a + (b - a) ≡ b = omega arith in
    rw (n, m) at (numbers_split a (b - a) (c - b))

pub length-numbers : (low count : ℕ) → length (numbers_from low count) ≡ count
length-numbers low zero = refl
length-numbers low (suc count) = ap suc (length-numbers (suc low) count)

length-plain_to : (high : ℕ) → length (plain_to high) ≡ high
length-plain_to high = length-map (numbers_from 0 high) Old ∙ length-numbers 0 high

plain_to_split : (low high : ℕ) → low ≤ high → plain_to high ≡ plain_to low ++ map Old (numbers_from low (high - low))
plain_to_split low high order =
    let e : low + (high - low) ≡ high = omega arith in
    let n = numbers_split 0 low (high - low) in
    let z : 0 + low ≡ low = omega arith in
    let m : numbers_from 0 high ≡ numbers_from 0 low ++ numbers_from low (high - low) = rw (e, z) at n in
    ap (map Old) m ∙ map-append Old (numbers_from 0 low) (numbers_from low (high - low))

plain_to_next : (index : ℕ) (rest : List Item) → plain_to (suc index) ++ rest ≡ plain_to index ++ (Old index ∷ rest)
plain_to_next index rest =
    let one : suc index - index ≡ 1 = omega arith in
    let s = plain_to_split index (suc index) (omega arith) in
    let t : plain_to (suc index) ≡ plain_to index ++ (Old index ∷ []) = rw one at s in
    ap (λ (items : List Item). items ++ rest) t ∙ append_assoc (plain_to index) (Old index ∷ []) rest

module _ (old : List ℕ) where
  pub text_row : (low count : ℕ) → low + count ≤ length old → text_of old (map Old (numbers_from low count))
      ≡ take count (drop low old)
  text_row low zero within = refl
  text_row low (suc count) within = grind (arith, common_steps, drop-cons, (text_row (suc low) count (omega arith)))

  text_met : (high : ℕ) (rest : List Item) → high ≤ length old → text_of old (plain_to high ++ rest) ≡ take high old
      ++ text_of old rest
  text_met high rest within = map-append (character_of old) (plain_to high) rest
      ∙ ap (λ (cs : List ℕ). cs ++ text_of old rest) (text_row 0 high (omega arith))

  -- What a text that a change meets has in common with the old text: all characters up to that at `high`, or both end
  -- there.
  record IsMet (met : List ℕ) (high : ℕ) : Type 0 where
    within : high ≤ length old
    long : high ≤ length met
    same : take high met ≡ take high old
    at_high : slice_index met high ≡ slice_index old high

  is_met : (high : ℕ) (rest : List Item) → high ≤ length old → slice_index (text_of old rest) 0 ≡ slice_index old high
      → IsMet (text_of old (plain_to high ++ rest)) high
  is_met high rest within first =
      grind (arith, common_steps, text_met, length-take-le, length-append, take_at, get_or-append-add)

  agree_to : (met : List ℕ) (high : ℕ) → IsMet met high → AgreeBelow met old (suc high)
  agree_to met high is j less =
      ⊎_elim
      (λ (e : j ≡ high). rw e is.at_high)
      (λ (e : j ≡ high → ⊥). agree_from_take met old high is.same j (omega arith))
      (cases_eq j high)

  module _ (units : ℕ → ℕ) (some : (c : ℕ) → 1 ≤ units c) where
    -- an index up to `high` is denoted in the text that a change meets by its exact position in the old text
    index_met : (met : List ℕ) (high k : ℕ) → IsMet met high → k ≤ high → splits_crlf old k ≡ false
        → denoted units met (exact_position units old k) ≡ Some k
    index_met met high k is order whole =
        let near = splits_near met old (suc high) k (agree_to met high is) (omega arith) in
        let met_whole : splits_crlf met k ≡ false = near ∙ whole in
        let met_take : take k (take high met) ≡ take k met = take-take k high met order in
        let old_take : take k (take high old) ≡ take k old = take-take k high old order in
        let both : take k (take high met) ≡ take k (take high old) = ap (take k) is.same in
        let same : take k met ≡ take k old = cc in
        let e = exact_near units met old k same (omega (arith, is.long)) (omega (arith, is.within)) met_whole whole in
        ap (denoted units met) (sym e) ∙ exact_denotes units some met k (omega (arith, is.long)) met_whole

    -- The change of a gap, on items that are old up to the gap's end, puts the gap's text in its place.
    gap_changed : (low high : ℕ) (text : List ℕ) (rest : List Item) → HasExactEnds old (gap_at low high text)
        → slice_index (text_of old rest) 0 ≡ slice_index old high → Makes units old (plain_to high ++ rest)
        (change_of_gap units old (gap_at low high text) ∷ []) (plain_to low ++ (map New text ++ rest))
    gap_changed low high text rest ends first =
        let is : IsMet (text_of old (plain_to high ++ rest)) high = is_met high rest ends.within first in
        let low_met = index_met (text_of old (plain_to high ++ rest)) high low is ends.order ends.low_whole in
        let high_met = index_met (text_of old (plain_to high ++ rest)) high high is (omega arith) ends.high_whole in
        let made : items_after units old (plain_to high ++ rest) (change_of_gap units old (gap_at low high text))
        ≡ Ok (plain_to low ++ (map New text ++ rest)) = rw (low_met, high_met) replaced_here in
        record {
          leaves = λ number. rw made refl;
          ranges = grind (arith, common_steps, exact_denotes);
        }
      where
        front : take low (plain_to high ++ rest) ≡ plain_to low
        front =
            let s = plain_to_split low high ends.order in
            rw (
              s,
              append_assoc (plain_to low) (map Old (numbers_from low (high - low))) rest,
            ) (take_at (plain_to low) (map Old (numbers_from low (high - low)) ++ rest) low (length-plain_to low))

        back : drop high (plain_to high ++ rest) ≡ rest
        back = drop_at (plain_to high) rest high (length-plain_to high)

        replaced_here : replaced (plain_to high ++ rest) text (Some low) (Some high)
            ≡ Ok (plain_to low ++ (map New text ++ rest))
        replaced_here = rw (le-leb low high ends.order, front, back) refl

-- the batch of a row of gaps
abbrev pub batch_of : (ℕ → ℕ) → List ℕ → List Gap → List ContentChange
batch_of units old gs = reverse (map (change_of_gap units old) (filter is_changed gs))

pub batch_of-cons : (units : ℕ → ℕ) (old : List ℕ) (g : Gap) (gs : List Gap) → batch_of units old (g ∷ gs)
    ≡ batch_of units old gs ++ change_at units old g
batch_of-cons units old g gs = grind (arith, common_steps, reverse-append, append-nil, cases_Bool)

module _ (units : ℕ → ℕ) (some : (c : ℕ) → 1 ≤ units c) (old : List ℕ) where
  gap_made : (low high : ℕ) (text : List ℕ) (rest : List Item) → low ≤ high
      → (is_changed (gap_at low high text) ≡ true → HasExactEnds old (gap_at low high text))
      → slice_index (text_of old rest) 0 ≡ slice_index old high → Makes units old (plain_to high ++ rest)
      (change_at units old (gap_at low high text)) (plain_to low ++ (map New text ++ rest))
  gap_made low high text rest order ends first =
      ⊎_elim
      (λ (e : is_changed (gap_at low high text) ≡ true). rw e (gap_changed old units some low high text rest (ends e)
      first))
      (λ (e : is_changed (gap_at low high text) ≡ false). rw e
      (subst (λ (made : List Item). Makes units old (plain_to high ++ rest) [] made) (same e)
      (makes_nothing units old (plain_to high ++ rest))))
      (cases_Bool (is_changed (gap_at low high text)))
    where
      same : is_changed (gap_at low high text) ≡ false → plain_to high ++ rest ≡ plain_to low ++ (map New text ++ rest)
      same e = grind (arith, common_steps, or_parts, ltb-false, nil_from_length, nat_lt)

  -- The changes of the gaps from an old index on, made from the last to the first, leave the items behind the old text
  -- before it.
  pub rebuilt : (low : ℕ) (text : List ℕ) (items : List Item) → Keeps old low items
      → AllHaveExactEnds old (gaps_from low (length old) text items)
      → Makes units old (plain old) (batch_of units old (gaps_from low (length old) text items))
      (plain_to low ++ (map New text ++ items))
  rebuilt low text [] keeps ends =
      rw (batch_of-cons units old (gap_at low (length old) text) [])
      (subst (λ (from : List Item). Makes units old from (change_at units old (gap_at low (length old) text))
      (plain_to low ++ (map New text ++ []))) (append-nil (plain old))
      (gap_made low (length old) text [] keeps.0 ends.0 (sym (get_or_past old (length old) 0 (omega arith)))))
  rebuilt low text (Old index ∷ items) keeps ends =
      rw (batch_of-cons units old (gap_at low index text) (gaps_from (suc index) (length old) [] items))
      (makes_joined units old (plain old) (plain_to index ++ (Old index ∷ items))
      (plain_to low ++ (map New text ++ (Old index ∷ items)))
      (batch_of units old (gaps_from (suc index) (length old) [] items))
      (change_at units old (gap_at low index text))
      (grind (arith, common_steps, plain_to_next, (rebuilt (suc index) [] items keeps.3 ends.1)))
      (gap_made low index text (Old index ∷ items) keeps.0 ends.0 refl))
  rebuilt low text (New character ∷ items) keeps ends =
      grind (arith, common_steps, map-append, append_assoc, (rebuilt low (text ++ character ∷ []) items keeps.1 ends))

  pub canonical_makes : (items : List Item) → Keeps old 0 items
      → Makes units old (plain old) (canonical units old items) items
  canonical_makes items keeps = rebuilt 0 [] items keeps (ends_exact old items keeps)
