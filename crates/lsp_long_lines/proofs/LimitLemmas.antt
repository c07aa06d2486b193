-- The walk back from the limit of a long line to the last index within it.
use Rattle.std.proofs.Common.{◌≡◌, ℕ, suc, ◌-◌, ◌≤◌, ◌<◌, ◌&&◌, Bool, true, false, nat_le, List, [], ◌∷◌, length, filter, Option, Some, None, option_map, Result, is_err, refl, sym, ap, ◌∙◌, subst, arith, ⊎_elim, le-leb}
use Rattle.std.specs.Result.{result_ok}
use Rattle.std.proofs.lemmas.Bool.{cases_Bool, cases_lt, and_parts, and_from, leb-true}
use Rattle.lsp_text.specs.declared.encoding.Encoding.{Encoding}
use Rattle.lsp_text.specs.declared.encoding.Encoding.TheVariants.{Utf8, Utf16, Utf32}
use Rattle.lsp_text.specs.declared.position.Position.{Position}
use Rattle.lsp_text.specs.laws.Units.{utf8_bounds, utf16_bounds, utf32_bounds}
use Rattle.lsp_text.specs.Positions.{exact_position, denoted}
use Rattle.lsp_text.specs.Text.{place_of}
use Rattle.lsp_text.specs.TextLines.{is_in_content, last_or, line_at, line_ends, line_start, line_stop, numbers_from}
use Rattle.lsp_text.specs.Units.{units_in, units_between}
use Rattle.lsp_text.proofs.Counting.UnitLemmas.{units_rise}
use Rattle.lsp_text.proofs.Positions.PositionLemmas.{exact_denotes, denoted_exact, denoted_whole}
use Rattle.lsp_text.proofs.TextLines.LineLemmas.{in_content, in_content_line, in_content_whole, line_has_start}
use Rattle.lsp_text.proofs.TextLines.RowLemmas.{IsLast, last_passes}
use Rattle.lsp_long_lines.specs.LongLines.{last_within, line_end}
use Rattle.lsp_long_lines.proofs.LineEndLemmas.{line_end-character}
use Rattle.std.proofs.lemmas.Grind.{common_steps}

pub units_some : (encoding : Encoding) (c : ℕ) → 1 ≤ units_in encoding c
units_some Utf8 c = (utf8_bounds c).0
units_some Utf16 c = (utf16_bounds c).0
units_some Utf32 c = (utf32_bounds c).0

-- What the call that looks for a position's byte offset returns, says what the position denotes.
pub missed : {E : Type 0} (text : List ℕ) (r : Result ℕ E) (o : Option ℕ) → result_ok r ≡ option_map (place_of text) o
    → is_err r ≡ true → o ≡ None
missed text r o value err = grind (arith, common_steps, is_err)

pub found : {E : Type 0} (text : List ℕ) (r : Result ℕ E) (o : Option ℕ) → result_ok r ≡ option_map (place_of text) o
    → is_err r ≡ false → (k : ℕ) × (o ≡ Some k)
found text r (Some k) value ok = (k, refl)
found text r None value ok = grind (arith, common_steps, is_err)

-- Two tests, one after the other, are one test of both.
filter_both : (test other : ℕ → Bool) (xs : List ℕ) → filter other (filter test xs)
    ≡ filter (λ k. test k && other k) xs
filter_both test other [] = refl
filter_both test other (x ∷ xs) = grind (arith, common_steps, cases_Bool, (filter_both test other xs))

-- The position is in a long line, at the limit or before it, and no index within the limit is after it.
pub record IsWalkedTo (units : ℕ → ℕ) (text : List ℕ) (p : Position) : Type 0 where
  pub there : p.line ≤ line_ends text
  pub few : p.character ≤ 100
  pub long : 100 < units_between units text (line_start text p.line) (line_stop text p.line)
  pub none : (k : ℕ) → k ≤ length text → is_in_content text p.line k ≡ true
      → units_between units text (line_start text p.line) k ≤ 100
      → units_between units text (line_start text p.line) k ≤ p.character

-- The walk starts at the limit.
pub walk_starts : (units : ℕ → ℕ) (text : List ℕ) (line : ℕ) (stop : Position) → line ≤ line_ends text
    → stop ≡ line_end units text line → 100 < stop.character →
    IsWalkedTo units text (record { line = line; character = 100 })
walk_starts units text line stop there end many =
    let count : stop.character ≡ units_between units text (line_start text line) (line_stop text line) =
    ap (λ (p : Position). p.character) end ∙ line_end-character units text line there in
    record { there = there; few = omega arith; long = omega (arith, count, many); none = λ k within content low. low }

-- Each character has at least one unit.
module _ (units : ℕ → ℕ) (some : (c : ℕ) → 1 ≤ units c) (text : List ℕ) where
  -- Where a position denotes nothing, no index of its line's content has so many units before it.
  not_denoted : (p : Position) (k : ℕ) → denoted units text p ≡ None → k ≤ length text
      → is_in_content text p.line k ≡ true
      → units_between units text (line_start text p.line) k ≡ p.character → ⊥
  not_denoted p k missed within content same =
      let here : line_at text k ≡ p.line = in_content_line text p.line k content in
      let count : units_between units text (line_start text (line_at text k)) k ≡ p.character =
      ap (λ (n : ℕ). units_between units text (line_start text n) k) here ∙ same in
      let exact : exact_position units text k ≡ p = λ i. record { line = here i; character = count i } in
      let found : denoted units text (exact_position units text k) ≡ Some k =
      exact_denotes units some text k within (in_content_whole text p.line k content) in
      let at : denoted units text (exact_position units text k) ≡ denoted units text p = ap (denoted units text) exact in
      absurd (cc)

  -- The start of a line is denoted, so the walk ends there at the latest.
  pub walk_not_at_start : (p : Position) → denoted units text p ≡ None → IsWalkedTo units text p → 0 < p.character
  walk_not_at_start p missed walked =
      let start = line_has_start text p.line walked.there in
      let first = line_start text p.line in
      let nothing : first - first ≡ 0 = omega arith in
      let zero_units : units_between units text first first ≡ 0 = rw nothing refl in
      ⊎_elim
      (λ (h : 0 < p.character). h)
      (λ (h : p.character ≤ 0). absurd (not_denoted p first missed (omega (arith, start.in_row)) start.passes
      (omega arith)))
      (cases_lt 0 p.character)

  -- One unit back.
  pub walk_on : (p : Position) → denoted units text p ≡ None → IsWalkedTo units text p
      → IsWalkedTo units text (record { line = p.line; character = p.character - 1 })
  walk_on p missed walked = record {
    there = walked.there;
    few = omega (arith, walked.few);
    long = walked.long;
    none = λ k within content low.
        let high = walked.none k within content low in
        let other = not_denoted p k missed within content in
        omega arith;
  }

  -- The first position of the walk that denotes an index is that of the last index within the limit.
  pub walk_ends : (p : Position) (k : ℕ) → denoted units text p ≡ Some k → IsWalkedTo units text p
      → p ≡ exact_position units text (last_within units text p.line)
  walk_ends p k found walked = sym exact ∙ ap (exact_position units text) (is_last _ last)
    where
      test : ℕ → Bool
      test = λ j. is_in_content text p.line j && nat_le (units_between units text (line_start text p.line) j) 100

      exact : exact_position units text k ≡ p
      exact = denoted_exact units text p k walked.there (omega (arith, walked.few, walked.long)) found

      here : line_at text k ≡ p.line
      here = ap (λ (q : Position). q.line) exact

      count : units_between units text (line_start text p.line) k ≡ p.character
      count = ap (λ (n : ℕ). units_between units text (line_start text n) k) (sym here)
          ∙ ap (λ (q : Position). q.character) exact

      within : k ≤ length text
      within = (denoted_whole units text p k found).within

      content : is_in_content text p.line k ≡ true
      content = in_content text p.line k here (denoted_whole units text p k found).whole

      passes : test k ≡ true
      passes =
          and_from (is_in_content text p.line k) (nat_le (units_between units text (line_start text p.line) k) 100)
          content
          (le-leb (units_between units text (line_start text p.line) k) 100 (omega (arith, count, walked.few)))

      last : IsLast test 0 (suc (length text)) (last_within units text p.line)
      last =
          subst (IsLast test 0 (suc (length text)))
          (ap (last_or 0) (sym (filter_both (is_in_content text p.line)
          (λ j. nat_le (units_between units text (line_start text p.line) j) 100)
          (numbers_from 0 (suc (length text))))))
          (last_passes test 0 0 (suc (length text)) k (omega arith) (omega (arith, within)) passes)

      is_last : (m : ℕ) → IsLast test 0 (suc (length text)) m → k ≡ m
      is_last m is =
          let both = and_parts (is_in_content text p.line m)
          (nat_le (units_between units text (line_start text p.line) m) 100) is.passes in
          let low : units_between units text (line_start text p.line) m ≤ p.character =
          walked.none m (omega (arith, is.in_row)) both.0
          (leb-true (units_between units text (line_start text p.line) m) 100 both.1) in
          let start_low : line_start text p.line ≤ k =
          (line_has_start text p.line walked.there).least k (omega arith) content in
          ⊎_elim
          (λ (h : k < m). absurd (omega (
            arith,
            units_rise units some text (line_start text p.line) k m start_low h (omega (arith, is.in_row)),
            low,
            count,
          )))
          (λ (h : m ≤ k). omega (arith, h, is.greatest k (omega (arith, within)) passes))
          (cases_lt k m)
