-- The places of a range's ends, in order, are those of the indexes that the ends denote.
use Rattle.lsp_edit.proofs.Prelude.{ℕ, ◌≡◌, ◌<◌, ◌≤◌, List, Option, Some, None, option_map, Ok, Err, refl, arith, le-leb, ⊎_elim, cases_lt, lt-leb, Range, place_of, denoted, place_order, place_rises, IsWhole, denoted_whole, ReversedRange, places_at, ends_of, in_order, numbered, common_steps}

-- the index of a denoted place
record IsPlaceOf (text : List ℕ) (found : Option ℕ) (place : ℕ) : Type 0 where
  index : ℕ
  is : found ≡ Some index
  at : place_of text index ≡ place

place_found : (text : List ℕ) (found : Option ℕ) (place : ℕ) → Some place ≡ option_map (place_of text) found
    → IsPlaceOf text found place
place_found text None place e = absurd (cc)
place_found text (Some k) place e = record { index = k; is = refl; at = cc }

module _ (units : ℕ → ℕ) (text : List ℕ) (range : Range) (number start stop : ℕ)
    (at_start : Some start ≡ option_map (place_of text) (denoted units text range.start))
    (at_stop : Some stop ≡ option_map (place_of text) (denoted units text range.stop)) where
  a : IsPlaceOf text (denoted units text range.start) start
  a = place_found text (denoted units text range.start) start at_start

  b : IsPlaceOf text (denoted units text range.stop) stop
  b = place_found text (denoted units text range.stop) stop at_stop

  pub places_in_order : start ≤ stop → Ok (start, stop) ≡ places_at number text (ends_of units text range)
  places_in_order order =
      let low : IsWhole text a.index = denoted_whole units text range.start a.index a.is in
      let rises : a.index ≤ b.index = place_order text a.index b.index low.within (omega (arith, a.at, b.at)) in
      rw (a.is, b.is, le-leb a.index b.index rises, a.at, b.at) refl

  pub places_reversed : stop < start → Err (ReversedRange number) ≡ places_at number text (ends_of units text range)
  places_reversed less =
      let high : IsWhole text b.index = denoted_whole units text range.stop b.index b.is in
      let low : IsWhole text a.index = denoted_whole units text range.start a.index a.is in
      let falls = ⊎_elim
      (λ (l : b.index < a.index). l)
      (λ (l : a.index ≤ b.index). absurd (omega (arith, a.at, b.at, place_rises text a.index b.index l high.within)))
      (cases_lt b.index a.index) in
      rw (a.is, b.is, lt-leb a.index b.index falls) refl

none_found : (text : List ℕ) (found : Option ℕ) → None ≡ option_map (place_of text) found → found ≡ None
none_found text None e = refl
none_found text (Some k) e = absurd (cc)

-- What is made of the byte offsets of both ends is what is made of their indexes.
pub places_same : (units : ℕ → ℕ) (text : List ℕ) (range : Range) (number : ℕ) (start stop : Option ℕ)
    → start ≡ option_map (place_of text) (denoted units text range.start)
    → stop ≡ option_map (place_of text) (denoted units text range.stop)
    → numbered number (in_order start stop) ≡ places_at number text (ends_of units text range)
places_same units text range number None stop a b = rw (none_found text (denoted units text range.start) a) refl
places_same units text range number (Some start) None a b = grind (arith, common_steps, place_found, none_found)
places_same units text range number (Some start) (Some stop) a b =
    ⊎_elim
    (λ (less : stop < start). rw (lt-leb start stop less) (places_reversed units text range number start stop a b less))
    (λ (order : start ≤ stop). rw (le-leb start stop order) (places_in_order units text range number start stop a b
    order))
    (cases_lt stop start)
