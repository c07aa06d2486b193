-- A canonical batch is one that the types hold: its positions fit, and its texts are UTF-8.
use Rattle.lsp_store.proofs.Prelude.{ℕ, zero, suc, ◌≡◌, ◌-◌, ◌<◌, ◌≤◌, ◌^◌, true, false, List, [], ◌∷◌, ◌++◌, length, map, reverse, filter, drop, sum_by, All, IfSome, encode_utf8_all, refl, arith, ⊎_elim, ⊤, cases_Bool, reverse-append, length-append, sum_by-cons, sum_by-take-le, sum_by-take-drop, sum_by-le-sum_by, length-encode, len_utf8_bounds, len_utf8, line_at, line_start, units_between, Item, ContentChange, Gap, gaps, is_changed, change_of_gap, canonical, AllHaveExactEnds, HasExactEnds, IsProperPosition, IsProperRange, IsProperEdit, AreTexts, written_content_change, common_steps}
use Rattle.std.proofs.lemmas.List.Elements.{All-nil, All-cons}
use Rattle.lsp_text.specs.Positions.{exact_position}

-- a text has as many bytes as its characters weigh, and at least as many bytes as characters
pub bytes_sum : (text : List ℕ) → length (encode_utf8_all text) ≡ sum_by len_utf8 text
bytes_sum [] = refl
bytes_sum (c ∷ text) = grind (
  arith,
  common_steps,
  sum_by-cons,
  encode_utf8_all,
  length-append,
  length-encode,
  (bytes_sum text),
)

chars_few : (text : List ℕ) → length text ≤ sum_by len_utf8 text
chars_few [] = omega arith
chars_few (c ∷ text) = omega (arith, chars_few text, sum_by-cons len_utf8 c text, (len_utf8_bounds c).0)

line_few : (text : List ℕ) (k : ℕ) → line_at text k ≤ k
line_few text zero = omega arith
line_few text (suc k) = grind (arith, common_steps, cases_Bool, (line_few text k))

units_few : (units : ℕ → ℕ) → ((c : ℕ) → units c ≤ len_utf8 c) → (text : List ℕ) (from to : ℕ)
    → units_between units text from to ≤ sum_by len_utf8 text
units_few units few text from to =
    omega (
      arith,
      sum_by-take-le units (drop from text) (to - from),
      sum_by-take-drop units text from,
      sum_by-le-sum_by units len_utf8 text few,
    )

module _ (units : ℕ → ℕ) (few : (c : ℕ) → units c ≤ len_utf8 c) (old : List ℕ)
    (small : sum_by len_utf8 old < 2 ^ 32) where
  position_fits : (k : ℕ) → k ≤ length old → IsProperPosition (exact_position units old k)
  position_fits k within = record {
    line = omega (arith, line_few old k, within, chars_few old, small);
    character = omega (arith, units_few units few old (line_start old (line_at old k)) k, small);
  }

  -- the ranges of changes fit
  abbrev RangesFit : List ContentChange → Type 0
  RangesFit [] = ⊤
  RangesFit (change ∷ batch) = (IfSome change.range IsProperRange) × RangesFit batch

  fit-append : (xs ys : List ContentChange) → RangesFit xs → RangesFit ys → RangesFit (xs ++ ys)
  fit-append [] ys p q = q
  fit-append (x ∷ xs) ys p q = (p.0, fit-append xs ys p.1 q)

  fit-reverse : (xs : List ContentChange) → RangesFit xs → RangesFit (reverse xs)
  fit-reverse [] p = tt
  fit-reverse (x ∷ xs) p =
      rw (reverse-append (x ∷ []) xs) (fit-append (reverse xs) (x ∷ []) (fit-reverse xs p.1) (p.0, tt))

  fit-gaps : (gs : List Gap) → AllHaveExactEnds old gs → RangesFit (map (change_of_gap units old)
      (filter is_changed gs))
  fit-gaps [] ends = tt
  fit-gaps (g ∷ gs) ends =
      ⊎_elim
      (λ (is : is_changed g ≡ true).
      let at : HasExactEnds old g = ends.0 is in
      rw is (
        record {
          start = position_fits g.low (omega (arith, at.order, at.within));
          stop = position_fits g.high at.within;
        },
        fit-gaps gs ends.1,
      ))
      (λ (not : is_changed g ≡ false). rw not (fit-gaps gs ends.1))
      (cases_Bool (is_changed g))

  all_proper : (batch : List ContentChange) → RangesFit batch → AreTexts batch
      → All IsProperEdit (map written_content_change batch)
  all_proper [] fit texts = All-nil IsProperEdit
  all_proper (change ∷ batch) fit texts =
      All-cons IsProperEdit (written_content_change change) (map written_content_change batch) (grind (
        arith,
        common_steps,
      )) (all_proper batch fit.1 texts.1)

  pub canonical_proper : (items : List Item) → AllHaveExactEnds old (gaps old items)
      → AreTexts (canonical units old items) → All IsProperEdit (map written_content_change (canonical units old items))
  canonical_proper items ends texts =
      all_proper (canonical units old items)
      (fit-reverse (map (change_of_gap units old) (filter is_changed (gaps old items))) (fit-gaps
      (gaps old items) ends))
      texts
