-- Two texts, one after the other, the first of which ends with no carriage return: the lines and positions of both by
-- those of each.
use Rattle.lsp_buffer.proofs.Prelude.{ℕ, zero, suc, ◌≡◌, ◌+◌, ◌-◌, ◌<◌, ◌≤◌, ◌==◌, Bool, true, false, cond, List, [], ◌∷◌, ◌++◌, length, drop, map, get_or, slice_index, filter, find, sum_by, nat_le, Option, Some, None, option_map, ⊎_elim, refl, sym, ap, ◌∙◌, arith, subst, le-ltb, lt-ltb, eqb-true, cases_Bool, cases_lt, lt-leb, false_from_ne_true, length-append, length-drop, get_or-append_right, get_or_append_left, take-append-le, drop-append-le, append-nil, take_all, drop-append-add, take-append-add, Position, starts_line, splits_crlf, line_at, line_ends, numbers_from, is_in_content, line_content, line_start, line_stop, units_between, exact_position, denoted, line_rises, splits_none_past, in_content_line, line_has_start, line_has_stop, IsStart, IsStop, last_stop, EndsClear, carried, common_steps}
use Rattle.std.proofs.lemmas.Bool.Decides.{nat_tests}
use Rattle.std.proofs.lemmas.List.Elements.{filter-append}
use Rattle.std.proofs.lemmas.List.Sums.{sum_by-append}
use Rattle.lsp_text.proofs.TextLines.StartRowLemmas.{first_starts}
use Rattle.lsp_text.proofs.Counting.UnitLemmas.{units_rise}
use Rattle.lsp_text.proofs.TextLines.SpliceLemmas.{filter_moved, numbers_split}
use Rattle.std.proofs.lemmas.Grind.{common_steps}

-- Rows of numbers.
none_pass : (test : ℕ → Bool) (low n : ℕ) → ((k : ℕ) → low ≤ k → k < low + n → test k ≡ false)
    → filter test (numbers_from low n) ≡ []
none_pass test low zero none = refl
none_pass test low (suc n) none =
    rw (none low (omega arith) (omega arith)) (none_pass test (suc low) n (λ k o w. none k (omega arith) (omega arith)))

same_pass : (test other : ℕ → Bool) (low n : ℕ) → ((k : ℕ) → low ≤ k → k < low + n → test k ≡ other k)
    → filter test (numbers_from low n) ≡ filter other (numbers_from low n)
same_pass test other low zero same = refl
same_pass test other low (suc n) same =
    rw (
      same low (omega arith) (omega arith),
      same_pass test other (suc low) n (λ k o w. same k (omega arith) (omega arith)),
    ) refl

find_same : (wanted other test : ℕ → Bool) (low n : ℕ) → ((k : ℕ) → low ≤ k → k < low + n → wanted k ≡ other k)
    → find wanted (filter test (numbers_from low n)) ≡ find other (filter test (numbers_from low n))
find_same wanted other test low zero same = refl
find_same wanted other test low (suc n) same =
    step (test low) (find_same wanted other test (suc low) n (λ k o w. same k (omega arith) (omega arith)))
  where
    step : (t : Bool) → find wanted (filter test (numbers_from (suc low) n))
        ≡ find other (filter test (numbers_from (suc low) n)) →
        find wanted (cond t (low ∷ filter test (numbers_from (suc low) n)) (filter test (numbers_from (suc low) n)))
        ≡ find other (cond t (low ∷ filter test (numbers_from (suc low) n)) (filter test (numbers_from (suc low) n)))
    step true ih = rw (same low (omega arith) (omega arith), ih) refl
    step false ih = ih

find_moved : (by : ℕ) (wanted other : ℕ → Bool) (xs : List ℕ) → ((k : ℕ) → wanted (by + k) ≡ other k)
    → find wanted (map (λ k. by + k) xs) ≡ option_map (λ k. by + k) (find other xs)
find_moved by wanted other [] same = refl
find_moved by wanted other (x ∷ xs) same = grind (arith, common_steps, find, (find_moved by wanted other xs same))

-- What isn't in one part of a list is found in the other.
find_front : (wanted : ℕ → Bool) (xs ys : List ℕ) → find wanted ys ≡ None → find wanted (xs ++ ys) ≡ find wanted xs
find_front wanted [] ys none = none
find_front wanted (x ∷ xs) ys none = ap (λ rest. cond (wanted x) (Some x) rest) (find_front wanted xs ys none)

find_after : (wanted test : ℕ → Bool) (low n : ℕ) (ys : List ℕ) → ((k : ℕ) → low ≤ k → k < low + n → test k ≡ true
    → wanted k ≡ false) → find wanted (filter test (numbers_from low n) ++ ys) ≡ find wanted ys
find_after wanted test low zero ys none = refl
find_after wanted test low (suc n) ys none =
    let later = find_after wanted test (suc low) n ys (λ k o w. none k (omega arith) (omega arith)) in
    ⊎_elim
    (λ (e : test low ≡ true). grind (arith, common_steps))
    (λ (e : test low ≡ false). rw e later)
    (cases_Bool (test low))

find_none_moved : (by : ℕ) (wanted : ℕ → Bool) (xs : List ℕ) → ((k : ℕ) → wanted (by + k) ≡ false)
    → find wanted (map (λ k. by + k) xs) ≡ None
find_none_moved by wanted [] none = refl
find_none_moved by wanted (x ∷ xs) none = rw (none x) (find_none_moved by wanted xs none)

-- The units from the start of a text's last line to its end.
abbrev pub head : (ℕ → ℕ) → List ℕ → ℕ
head units text = units_between units text (line_start text (line_ends text)) (length text)

-- The first of a text, the second after it.
module _ (a b : List ℕ) where
  pub left_at : (k : ℕ) → k < length a → slice_index (a ++ b) k ≡ slice_index a k
  left_at k h = get_or_append_left a b 0 k h

  pub right_at : (k : ℕ) → slice_index (a ++ b) (length a + k) ≡ slice_index b k
  right_at k = get_or-append_right a b (length a) (length a + k) 0 refl (omega arith)
      ∙ ap (λ i. get_or b i 0) (omega arith)

-- Where the first ends with no carriage return.
module _ (a b : List ℕ) (clear : EndsClear a) where
  last_at : (k : ℕ) → suc k ≡ length a → (slice_index a k == 13) ≡ false
  last_at k h = grind (arith, common_steps, false_from_ne_true, eqb-true)

  seam_ends : (k : ℕ) → k ≤ length a → starts_line (a ++ b) k ≡ starts_line a k
  seam_ends zero h = refl
  seam_ends (suc k) h =
      grind (arith, common_steps, left_at, last_at, (cases_lt (suc k) (length a)))

  pub seam_splits : (k : ℕ) → k ≤ length a → splits_crlf (a ++ b) k ≡ splits_crlf a k
  seam_splits zero h = refl
  seam_splits (suc k) h =
      grind (arith, common_steps, left_at, last_at, (cases_lt (suc k) (length a)))

  pub seam_line : (k : ℕ) → k ≤ length a → line_at (a ++ b) k ≡ line_at a k
  seam_line zero h = refl
  seam_line (suc k) h = rw (seam_ends (suc k) h, seam_line k (omega arith)) refl

  pub seam_whole : splits_crlf a (length a) ≡ false
  seam_whole = splits_none_past a (length a) (omega arith)

  beyond_ends : (k : ℕ) → starts_line (a ++ b) (suc (length a + k)) ≡ starts_line b (suc k)
  beyond_ends k = grind (arith, common_steps, right_at)

  pub beyond_splits : (k : ℕ) → splits_crlf (a ++ b) (length a + k) ≡ splits_crlf b k
  beyond_splits zero = ap (splits_crlf (a ++ b)) (omega arith) ∙ (seam_splits (length a) (omega arith) ∙ seam_whole)
  beyond_splits (suc k) =
      let at : length a + suc k ≡ suc (length a + k) = omega arith in
      let next : slice_index (a ++ b) (suc (length a + k)) ≡ slice_index b (suc k) =
      ap (slice_index (a ++ b)) (omega arith) ∙ right_at a b (suc k) in
      ap (splits_crlf (a ++ b)) at ∙ (rw (right_at a b k, next) refl)

  pub beyond_line : (k : ℕ) → line_at (a ++ b) (length a + k) ≡ line_ends a + line_at b k
  beyond_line zero = ap (line_at (a ++ b)) (omega arith) ∙ (seam_line (length a) (omega arith) ∙ omega arith)
  beyond_line (suc k) =
      let at : length a + suc k ≡ suc (length a + k) = omega arith in
      ap (line_at (a ++ b)) at ∙ step (starts_line b (suc k)) (beyond_ends k) (beyond_line k)
    where
      step : (e : Bool) → starts_line (a ++ b) (suc (length a + k)) ≡ e → line_at (a ++ b) (length a + k) ≡ line_ends a
          + line_at b k → cond (starts_line (a ++ b) (suc (length a + k))) (suc (line_at (a ++ b) (length a + k)))
          (line_at (a ++ b) (length a + k)) ≡ line_ends a + cond e (suc (line_at b k)) (line_at b k)
      step true is ih = rw is (omega arith)
      step false is ih = rw is ih

  pub seam_count : line_ends (a ++ b) ≡ line_ends a + line_ends b
  seam_count = ap (line_at (a ++ b)) (length-append a b) ∙ beyond_line (length b)

  -- A line of the first has the same content there as in both.
  content_left : (line k : ℕ) → k ≤ length a → is_in_content (a ++ b) line k ≡ is_in_content a line k
  content_left line k h = rw (seam_line k h, seam_splits k h) refl

  content_right : (line k : ℕ) → is_in_content (a ++ b) (line_ends a + line) (length a + k) ≡ is_in_content b line k
  content_right line k = grind (arith, common_steps, beyond_line, beyond_splits, nat_tests)

  inside : (line k : ℕ) → line < line_ends a → is_in_content (a ++ b) line k ≡ true → k ≤ length a
  inside line k there h =
      ⊎_elim
      (λ (g : length a < k).
      absurd (omega (
        arith,
        in_content_line (a ++ b) line k h,
        line_rises (a ++ b) (length a) k (omega arith),
        seam_line (length a) (omega arith),
      )))
      (λ (g : k ≤ length a). g)
      (cases_lt (length a) k)

  outside : (line k : ℕ) → line_ends a < line → is_in_content (a ++ b) line k ≡ true → length a ≤ k
  outside line k there h =
      ⊎_elim
      (λ (g : k < length a). absurd (omega (
        arith,
        in_content_line (a ++ b) line k h,
        seam_line k (omega arith),
        line_rises a k (length a) (omega arith),
      )))
      (λ (g : length a ≤ k). g)
      (cases_lt k (length a))

  pub start_left : (line : ℕ) → line ≤ line_ends a → line_start (a ++ b) line ≡ line_start a line
  start_left line h =
      let one = line_has_start (a ++ b) line (omega (arith, seam_count)) in
      let two : IsStart a line (line_start a line) = line_has_start a line (omega arith) in
      let within : line_start a line ≤ length a = omega (arith, two.in_row) in
      let low = one.least (line_start a line) (omega arith) (content_left line (line_start a line) within ∙ two.passes) in
      let high : line_start a line ≤ line_start (a ++ b) line =
      grind (arith, common_steps, line_start, content_left) in
      omega arith

  pub stop_left : (line : ℕ) → line < line_ends a → line_stop (a ++ b) line ≡ line_stop a line
  stop_left line h =
      let one = line_has_stop (a ++ b) line (omega (arith, seam_count)) in
      let two : IsStop a line (line_stop a line) = line_has_stop a line (omega arith) in
      let within : line_stop a line ≤ length a = omega (arith, two.in_row) in
      let one_within : line_stop (a ++ b) line ≤ length a = inside line (line_stop (a ++ b) line) h one.passes in
      let low = one.greatest (line_stop a line) (omega (arith, length-append a b)) (grind (arith, common_steps, content_left, line_stop)) in
      let high : line_stop (a ++ b) line ≤ line_stop a line =
      grind (arith, common_steps, line_stop, content_left) in
      omega arith

  -- A line of the second is moved, except that its first line goes on with the last of the first.
  pub start_right : (line : ℕ) → 0 < line → line ≤ line_ends b → line_start (a ++ b) (line_ends a + line)
      ≡ length a + line_start b line
  start_right line later h =
      let one : IsStart (a ++ b) (line_ends a + line) (line_start (a ++ b) (line_ends a + line)) =
      line_has_start (a ++ b) (line_ends a + line) (omega (arith, seam_count)) in
      let two : IsStart b line (line_start b line) = line_has_start b line h in
      let s : ℕ = line_start (a ++ b) (line_ends a + line) in
      let beyond : length a ≤ s = outside (line_ends a + line) s (omega arith) one.passes in
      let back : length a + (s - length a) ≡ s = omega arith in
      let here : is_in_content b line (s - length a) ≡ true = sym (content_right line (s - length a))
      ∙ (ap (is_in_content (a ++ b) (line_ends a + line)) back ∙ one.passes) in
      let low = one.least (length a + line_start b line) (omega arith) (content_right line (line_start b line) ∙ two.passes) in
      let high : line_start b line ≤ s - length a = two.least (s - length a) (omega arith) here in
      omega arith

  pub stop_right : (line : ℕ) → line ≤ line_ends b → line_stop (a ++ b) (line_ends a + line)
      ≡ length a + line_stop b line
  stop_right line h =
      let one : IsStop (a ++ b) (line_ends a + line) (line_stop (a ++ b) (line_ends a + line)) =
      line_has_stop (a ++ b) (line_ends a + line) (omega (arith, seam_count)) in
      let two : IsStop b line (line_stop b line) = line_has_stop b line h in
      let s : ℕ = line_stop (a ++ b) (line_ends a + line) in
      let low : length a + line_stop b line ≤ s =
      grind (arith, common_steps, (line_stop b line), (length-append a b), (content_right line (line_stop b line))) in
      let back : length a + (s - length a) ≡ s = omega arith in
      let here : is_in_content b line (s - length a) ≡ true = sym (content_right line (s - length a))
      ∙ (ap (is_in_content (a ++ b) (line_ends a + line)) back ∙ one.passes) in
      let high = two.greatest (s - length a) (omega (arith, one.in_row, length-append a b)) here in
      omega arith

  -- The contents as rows.
  content_row_left : (line : ℕ) → line < line_ends a → line_content (a ++ b) line ≡ filter (is_in_content a line)
      (numbers_from 0 (length a))
  content_row_left line h =
      let size : suc (length (a ++ b)) ≡ length a + suc (length b) = omega (arith, length-append a b) in
      let later = none_pass (is_in_content (a ++ b) line) (0 + length a) (suc (length b)) (λ k o w. not_there k (omega arith)) in
      ap (λ n. filter (is_in_content (a ++ b) line) (numbers_from 0 n)) size ∙
      (grind (arith, common_steps, numbers_split, filter-append, append-nil, same_pass, content_left))
    where
      not_there : (k : ℕ) → length a ≤ k → is_in_content (a ++ b) line k ≡ false
      not_there k o =
          ⊎_elim
          (λ (e : is_in_content (a ++ b) line k ≡ true).
          absurd (omega (
            arith,
            in_content_line (a ++ b) line k e,
            line_rises (a ++ b) (length a) k o,
            seam_line (length a) (omega arith),
          )))
          (λ (e : is_in_content (a ++ b) line k ≡ false). e)
          (cases_Bool (is_in_content (a ++ b) line k))

  row_left : (line : ℕ) → line < line_ends a → line_content a line ≡ filter (is_in_content a line)
      (numbers_from 0 (length a))
  row_left line h =
      let size : suc (length a) ≡ length a + 1 = omega arith in
      ap (λ n. filter (is_in_content a line) (numbers_from 0 n)) size ∙
      (grind (arith, common_steps, numbers_split, filter-append, append-nil))

  -- The row of a line that the second has: first what the first text has of it.
  row_right : (line : ℕ) → line_content (a ++ b) (line_ends a + line)
      ≡ filter (is_in_content (a ++ b) (line_ends a + line)) (numbers_from 0 (length a)) ++ map (λ k. length a + k)
      (line_content b line)
  row_right line =
      let test = is_in_content (a ++ b) (line_ends a + line) in
      let size : suc (length (a ++ b)) ≡ length a + suc (length b) = omega (arith, length-append a b) in
      let from : 0 + length a ≡ length a = omega arith in
      ap (λ n. filter test (numbers_from 0 n)) size ∙
      (ap (filter test) (numbers_split 0 (length a) (suc (length b))) ∙
      (filter-append test (numbers_from 0 (length a)) (numbers_from (0 + length a) (suc (length b))) ∙
      (ap (λ n. filter test (numbers_from 0 (length a)) ++ filter test (numbers_from n (suc (length b)))) from ∙
      ap (λ xs. filter test (numbers_from 0 (length a)) ++ xs)
      (sym (filter_moved (λ k. length a + k) (is_in_content b line) test 0 (length a) (suc (length b)) moved
      (λ j h. omega arith))))))
    where
      moved : (j : ℕ) → j < suc (length b) → is_in_content b line (0 + j) ≡ is_in_content (a ++ b) (line_ends a + line)
          (length a + j)
      moved j h = ap (is_in_content b line) (omega arith) ∙ sym (content_right line j)

  -- The row of the first text's last line.
  row_last : line_content a (line_ends a) ≡ filter (is_in_content a (line_ends a)) (numbers_from 0 (length a))
      ++ filter (is_in_content a (line_ends a)) (numbers_from (0 + length a) 1)
  row_last =
      let size : suc (length a) ≡ length a + 1 = omega arith in
      ap (λ n. filter (is_in_content a (line_ends a)) (numbers_from 0 n)) size ∙
      (grind (arith, common_steps, is_in_content, line_ends, numbers_split, filter-append, numbers_from))

  -- Units.
  pub units_left : (units : ℕ → ℕ) (i k : ℕ) → i ≤ length a → k ≤ length a → units_between units (a ++ b) i k
      ≡ units_between units a i k
  units_left units i k h g = grind (arith, common_steps, sum_by, drop-append-le, take-append-le, length-drop)

  pub units_right : (units : ℕ → ℕ) (i k : ℕ) → units_between units (a ++ b) (length a + i) (length a + k)
      ≡ units_between units b i k
  units_right units i k = grind (arith, common_steps, sum_by, drop-append-add)

  -- The units of a line that the second has: its first line goes on with the last of the first.
  pub units_line : (units : ℕ → ℕ) (line k : ℕ) → line ≤ line_ends b
      → units_between units (a ++ b) (line_start (a ++ b) (line_ends a + line)) (length a + k)
      ≡ carried line (head units a) + units_between units b (line_start b line) k
  units_line units zero k h =
      let start = line_start a (line_ends a) in
      let within : start ≤ length a = omega (arith, (line_has_start a (line_ends a) (omega arith)).in_row) in
      let first : line_start (a ++ b) (line_ends a + 0) ≡ start = grind (arith, common_steps, start_left, (line_start (a ++ b)), (line_ends a)) in
      let part : drop start (a ++ b) ≡ drop start a ++ b = drop-append-le start a b within in
      let count : length a + k - start ≡ length (drop start a) + k = omega (arith, length-drop start a, within) in
      let all = take_all (length a - start) (drop start a) (omega (arith, length-drop start a)) in
      let zero_is : line_start b 0 ≡ 0 = first_starts b in
      let whole : k - 0 ≡ k = omega arith in
      ap (λ s. units_between units (a ++ b) s (length a + k)) first ∙
      (grind (arith, common_steps, sum_by, take-append-add, sum_by-append, zero_is))
  units_line units (suc line) k h = grind (arith, common_steps, start_right, units_right)

  -- An index of the first in its last line has fewer units before it than that line.
  units_before : (units : ℕ → ℕ) → ((c : ℕ) → 1 ≤ units c) → (line k : ℕ) → k < length a
      → is_in_content (a ++ b) (line_ends a + line) k ≡ true →
      units_between units (a ++ b) (line_start (a ++ b) (line_ends a + line)) k < carried line (head units a)
  units_before units some (suc line) k h there =
      absurd (omega (
        arith,
        in_content_line (a ++ b) (line_ends a + suc line) k there,
        seam_line k (omega arith),
        line_rises a k (length a) (omega arith),
      ))
  units_before units some zero k h there =
      let start = line_start a (line_ends a) in
      let zero_is : line_ends a + 0 ≡ line_ends a = omega arith in
      let here : is_in_content a (line_ends a) k ≡ true = grind (arith, common_steps, content_left, line_ends, is_in_content, zero_is) in
      let begins : start ≤ k = (line_has_start a (line_ends a) (omega arith)).least k (omega arith) here in
      let first : line_start (a ++ b) (line_ends a + 0) ≡ start =
      ap (line_start (a ++ b)) zero_is ∙ start_left (line_ends a) (omega arith) in
      let same : units_between units (a ++ b) (line_start (a ++ b) (line_ends a + 0)) k ≡ units_between units a start
      k =
      ap (λ s. units_between units (a ++ b) s k) first ∙ units_left units start k (omega arith) (omega arith) in
      let rise = units_rise units some a start k (length a) begins h (omega arith) in
      omega (arith, same, rise)

  -- What a position denotes.
  pub denoted_left : (units : ℕ → ℕ) (p : Position) → p.line < line_ends a → denoted units (a ++ b) p
      ≡ denoted units a p
  denoted_left units p h =
      grind (
        arith,
        common_steps,
        le-ltb,
        seam_count,
        units_left,
        start_left,
        stop_left,
        line_has_start,
        line_has_stop,
        find,
        content_row_left,
        find_same,
        row_left,
      )

  -- In the first text's last line.
  pub denoted_last : (units : ℕ → ℕ) → ((c : ℕ) → 1 ≤ units c) → (p : Position) → p.line ≡ line_ends a
      → p.character < head units a → denoted units (a ++ b) p ≡ denoted units a p
  denoted_last units some p there low =
      rw (le-ltb (line_ends (a ++ b)) p.line (omega (arith, seam_count)), le-ltb (line_ends a) p.line (omega arith))
      (rw (
        lt-leb (units_between units (a ++ b) (line_start (a ++ b) p.line) (line_stop (a ++ b) p.line)) p.character more,
        lt-leb (units_between units a (line_start a p.line) (line_stop a p.line)) p.character few,
      ) searched)
    where
      zero_is : line_ends a + 0 ≡ p.line
      zero_is = omega (arith, there)

      few : p.character < units_between units a (line_start a p.line) (line_stop a p.line)
      few = subst (λ l. p.character < units_between units a (line_start a l) (line_stop a l)) (sym there)
          (subst (λ s. p.character < units_between units a (line_start a (line_ends a)) s) (sym (last_stop a)) low)

      stop_is : line_stop (a ++ b) p.line ≡ length a + line_stop b 0
      stop_is = ap (line_stop (a ++ b)) (sym zero_is) ∙ stop_right 0 (omega arith)

      start_is : line_start (a ++ b) p.line ≡ line_start a p.line
      start_is = start_left p.line (omega (arith, there))

      line_units : (k : ℕ) → units_between units (a ++ b) (line_start (a ++ b) p.line) (length a + k) ≡ head units a
          + units_between units b (line_start b 0) k
      line_units k = ap (λ l. units_between units (a ++ b) (line_start (a ++ b) l) (length a + k)) (sym zero_is)
          ∙ units_line units 0 k (omega arith)

      more : p.character < units_between units (a ++ b) (line_start (a ++ b) p.line) (line_stop (a ++ b) p.line)
      more = grind (arith, common_steps, stop_is, line_units)

      fails_moved : (k : ℕ) → (units_between units (a ++ b) (line_start (a ++ b) p.line) (length a + k) == p.character)
          ≡ false
      fails_moved k = grind (arith, common_steps, false_from_ne_true, eqb-true, line_units)

      fails_last : (units_between units a (line_start a p.line) (length a) == p.character) ≡ false
      fails_last = grind (arith, common_steps, false_from_ne_true, eqb-true)

      searched : find (λ k. units_between units (a ++ b) (line_start (a ++ b) p.line) k == p.character)
          (line_content (a ++ b) p.line) ≡ find (λ k. units_between units a (line_start a p.line) k == p.character)
          (line_content a p.line)
      searched =
          let w = λ (k : ℕ). units_between units (a ++ b) (line_start (a ++ b) p.line) k == p.character in
          let o = λ (k : ℕ). units_between units a (line_start a p.line) k == p.character in
          let row : line_content (a ++ b) p.line ≡ filter (is_in_content (a ++ b) p.line) (numbers_from 0 (length a))
          ++ map (λ k. length a + k) (line_content b 0) =
          subst (λ l. line_content (a ++ b) l ≡ filter (is_in_content (a ++ b) l) (numbers_from 0 (length a))
          ++ map (λ k. length a + k) (line_content b 0)) zero_is (row_right 0) in
          let own : line_content a p.line ≡ filter (is_in_content a p.line) (numbers_from 0 (length a))
          ++ filter (is_in_content a p.line) (numbers_from (0 + length a) 1) =
          grind (arith, common_steps, line_content, is_in_content, numbers_from, row_last) in
          let end_fails : o (0 + length a) ≡ false = grind (arith, common_steps, fails_last) in
          let none : find o (filter (is_in_content a p.line) (numbers_from (0 + length a) 1)) ≡ None =
          grind (arith, common_steps, cases_Bool) in
          ap (find w) row ∙
          (find_front w (filter (is_in_content (a ++ b) p.line) (numbers_from 0 (length a)))
          (map (λ k. length a + k) (line_content b 0)) (find_none_moved (length a) w (line_content b 0) fails_moved) ∙
          (grind (arith, common_steps, find, same_pass, content_left, find_same, start_is, units_left, find_front)))

  -- A position of the second, moved after the first.
  pub denoted_right : (units : ℕ → ℕ) → ((c : ℕ) → 1 ≤ units c) → (line character : ℕ) →
      denoted units (a ++ b) (record { line = line_ends a + line; character = carried line (head units a) + character })
      ≡ option_map (λ k. length a + k) (denoted units b (record { line = line; character = character }))
  denoted_right units some line character =
      ⊎_elim
      (λ (h : line_ends b < line).
      rw (lt-ltb (line_ends (a ++ b)) (line_ends a + line) (omega (arith, seam_count)), lt-ltb (line_ends b) line h)
      (ap Some (length-append a b)))
      (λ (h : line ≤ line_ends b).
      rw (le-ltb (line_ends (a ++ b)) (line_ends a + line) (omega (arith, seam_count)), le-ltb (line_ends b) line h)
      (in_line h))
      (cases_lt (line_ends b) line)
    where
      same_test : (n x y : ℕ) → (n + x == n + y) ≡ (x == y)
      same_test n x y = grind (arith, nat_tests)

      same_order : (n x y : ℕ) → nat_le (n + x) (n + y) ≡ nat_le x y
      same_order n x y = grind (arith, nat_tests)

      searched : line ≤ line_ends b →
          find (λ k. units_between units (a ++ b) (line_start (a ++ b) (line_ends a + line)) k == carried line
          (head units a) + character) (line_content (a ++ b) (line_ends a + line))
          ≡ option_map (λ k. length a + k) (find (λ k. units_between units b (line_start b line) k == character)
          (line_content b line))
      searched h =
          let w = λ (k : ℕ). units_between units (a ++ b) (line_start (a ++ b) (line_ends a + line)) k == carried line
          (head units a) + character in
          let o = λ (k : ℕ). units_between units b (line_start b line) k == character in
          ap (find w) (row_right line) ∙
          (find_after w (is_in_content (a ++ b) (line_ends a + line)) 0 (length a)
          (map (λ k. length a + k) (line_content b line))
          (λ k l g there.
          grind (arith, common_steps, false_from_ne_true, eqb-true, units_before)) ∙
          find_moved (length a) w o (line_content b line)
          (λ k. grind (arith, common_steps, units_line, same_test, units_between, line_start)))

      choose : (t : Bool) (stop : ℕ) (found : Option ℕ)
          → cond t (Some (length a + stop)) (option_map (λ k. length a + k) found) ≡ option_map (λ k. length a + k)
          (cond t (Some stop) found)
      choose true stop found = refl
      choose false stop found = refl

      in_line : line ≤ line_ends b →
          cond (nat_le (units_between units (a ++ b) (line_start (a ++ b) (line_ends a + line))
          (line_stop (a ++ b) (line_ends a + line))) (carried line (head units a) + character))
          (Some (line_stop (a ++ b) (line_ends a + line)))
          (find (λ k. units_between units (a ++ b) (line_start (a ++ b) (line_ends a + line)) k == carried line
          (head units a) + character) (line_content (a ++ b) (line_ends a + line))) ≡ option_map (λ k. length a + k)
          (cond (nat_le (units_between units b (line_start b line) (line_stop b line)) character)
          (Some (line_stop b line)) (find (λ k. units_between units b (line_start b line) k == character)
          (line_content b line)))
      in_line h = grind (arith, common_steps, nat_le, stop_right, units_line, same_order, searched, choose, find)

  -- The exact position of an index of the second.
  pub exact_right : (units : ℕ → ℕ) (k : ℕ) → k ≤ length b → exact_position units (a ++ b) (length a + k) ≡ record {
    line = line_ends a + (exact_position units b k).line;
    character = carried (exact_position units b k).line (head units a) + (exact_position units b k).character;
  }
  exact_right units k h = grind (arith, common_steps, beyond_line, units_line, line_rises)

  -- The last line of both.
  pub head_right : (units : ℕ → ℕ) → head units (a ++ b) ≡ carried (line_ends b) (head units a) + head units b
  head_right units = grind (arith, common_steps, seam_count, length-append, units_line)
