-- The row of a text's line starts: how many there are, which each is, and that they ascend.
use Rattle.lsp_text.proofs.Prelude.{◌≡◌, ℕ, zero, suc, ◌+◌, ◌-◌, ◌≤◌, ◌<◌, Bool, true, false, cond, List, [], ◌∷◌, length, get_or, filter, refl, sym, ap, arith, ⊎_elim, subst, cases_lt, cases_Bool, starts_line, numbers_from, line_at, line_ends, line_start, line_starts, AreStarts, common_steps}
use Rattle.lsp_text.proofs.TextLines.LineLemmas.{line_rises, in_content, in_content_line, line_end_whole, line_has_start}
use Rattle.std.proofs.lemmas.Grind.{common_steps}

-- Each number of a row is greater than the one before, and the first is `low` at least.
abbrev pub Ascends : ℕ → List ℕ → Type 0
Ascends low [] = Unit {0}
Ascends low (x ∷ xs) = (low ≤ x) × Ascends (suc x) xs

pub ascends_lower : (low high : ℕ) (xs : List ℕ) → low ≤ high → Ascends high xs → Ascends low xs
ascends_lower low high [] order a = tt
ascends_lower low high (x ∷ xs) order a = (omega (arith, a.0), a.1)

pub filter_ascends : (test : ℕ → Bool) (low count : ℕ) → Ascends low (filter test (numbers_from low count))
filter_ascends test low zero = tt
filter_ascends test low (suc count) =
    grind (arith, common_steps, ascends_lower, cases_Bool, (filter_ascends test (suc low) count))

pub ascends_from : (low : ℕ) (xs : List ℕ) → Ascends low xs → (k : ℕ) → k < length xs → low ≤ get_or xs k 0
ascends_from low [] a k h = absurd (omega arith)
ascends_from low (x ∷ xs) a zero h = a.0
ascends_from low (x ∷ xs) a (suc k) h = omega (arith, a.0, ascends_from (suc x) xs a.1 k (omega arith))

pub ascends_at : (low : ℕ) (xs : List ℕ) → Ascends low xs → (j k : ℕ) → j < k → k < length xs
    → get_or xs j 0 < get_or xs k 0
ascends_at low [] a j k order h = absurd (omega arith)
ascends_at low (x ∷ xs) a j zero order h = absurd (omega arith)
ascends_at low (x ∷ xs) a zero (suc k) order h = omega (arith, ascends_from (suc x) xs a.1 k (omega arith))
ascends_at low (x ∷ xs) a (suc j) (suc k) order h = ascends_at (suc x) xs a.1 j k (omega arith) (omega arith)

pub starts_ascend : (text : List ℕ) → Ascends 0 (line_starts text)
starts_ascend text = (omega arith, filter_ascends (starts_line text) 1 (length text - 0))

pub line_starts_are : (text : List ℕ) → AreStarts (line_starts text)
line_starts_are text = record {
  some = omega arith;
  first = refl;
  ascend = λ (j k : ℕ) (order : j ≤ k) (within : k < length (line_starts text)).
      ⊎_elim
      (λ (h : j < k). let r : get_or (line_starts text) j 0 < get_or (line_starts text) k 0 = ascends_at 0
      (line_starts text) (starts_ascend text) j k h within in omega arith)
      (λ (h : k ≤ j). let e : j ≡ k = omega arith in rw e (omega arith))
      (cases_lt j k);
}

-- There is one start more than line ends.
ends_counted : (text : List ℕ) (k n : ℕ) → length (filter (starts_line text) (numbers_from (suc k) n)) + line_at text k
    ≡ line_at text (k + n)
ends_counted text k zero = omega (arith, ap (line_at text) (let e : k ≡ k + 0 = omega arith in e))
ends_counted text k (suc n) =
    let later = ends_counted text (suc k) n in
    let end : line_at text (suc k + n) ≡ line_at text (k + suc n) = ap (line_at text) (omega arith) in
    ⊎_elim
    (λ (e : starts_line text (suc k) ≡ true). let l : line_at text (suc k) ≡ suc (line_at text k) = rw e refl in
    rw e (omega arith))
    (λ (e : starts_line text (suc k) ≡ false). grind (arith, common_steps, (line_at text (suc k)), (line_at text k)))
    (cases_Bool (starts_line text (suc k)))

pub length-line_starts : (text : List ℕ) → length (line_starts text) ≡ suc (line_ends text)
length-line_starts text =
    let counted = ends_counted text 0 (length text - 0) in
    let end : line_at text (0 + (length text - 0)) ≡ line_at text (length text) = ap (line_at text) (omega arith) in
    omega arith

-- What stands in the row of line ends behind index k: an index behind k that ends a line, and which one.
record IsEnd (text : List ℕ) (k n line end : ℕ) : Type 0 where
  rest_after : k < end
  within : end ≤ k + n
  ends : starts_line text end ≡ true
  line_is : line_at text end ≡ line

one_further : (text : List ℕ) (k n : ℕ) (b : Bool) → starts_line text (suc k) ≡ b → (later : List ℕ) →
    ((j : ℕ) → j < length later → IsEnd text (suc k) n (line_at text (suc k) + suc j) (get_or later j 0)) →
    (j : ℕ) → j < length (cond b (suc k ∷ later) later) → IsEnd text k (suc n) (line_at text k + suc j)
    (get_or (cond b (suc k ∷ later) later) j 0)
one_further text k n true e later each zero h = grind (arith, common_steps)
one_further text k n _ e later each _ h = grind (arith, common_steps)

end_at : (text : List ℕ) (k n j : ℕ) → j < length (filter (starts_line text) (numbers_from (suc k) n)) →
    IsEnd text k n (line_at text k + suc j) (get_or (filter (starts_line text) (numbers_from (suc k) n)) j 0)
end_at text k zero j h = absurd (omega arith)
end_at text k (suc n) j h = grind (arith, common_steps, one_further, (end_at text (suc k) n))

-- An index that ends a line is the start of its line.
pub end_starts : (text : List ℕ) (end : ℕ) → end ≤ length text → 0 < end → starts_line text end ≡ true
    → line_start text (line_at text end) ≡ end
end_starts text zero within some ends = absurd (omega arith)
end_starts text (suc k) within some ends =
    let line = line_at text (suc k) in
    let start = line_has_start text line (line_rises text (suc k) (length text) within) in
    let low = start.least (suc k) (omega arith) (in_content text line (suc k) refl (line_end_whole text (suc k) ends)) in
    let here = in_content_line text line (line_start text line) start.passes in
    let before : line ≡ suc (line_at text k) = rw ends refl in
    ⊎_elim
    (λ (h : line_start text line < suc k). absurd (omega (
      arith,
      line_rises text (line_start text line) k (omega arith),
    )))
    (λ (h : suc k ≤ line_start text line). omega arith)
    (cases_lt (line_start text line) (suc k))

pub first_starts : (text : List ℕ) → line_start text 0 ≡ 0
first_starts text = grind (arith, common_steps, line_has_start, in_content)

-- The start at an index of the row is that of the line with this number.
pub start_at : (text : List ℕ) (line : ℕ) → line ≤ line_ends text → get_or (line_starts text) line 0
    ≡ line_start text line
start_at text zero h = sym (first_starts text)
start_at text (suc j) h =
    let row = filter (starts_line text) (numbers_from 1 (length text - 0)) in
    let size : suc (length row) ≡ suc (line_ends text) = length-line_starts text in
    let end : IsEnd text 0 (length text - 0) (0 + suc j) (get_or row j 0) =
    end_at text 0 (length text - 0) j (omega arith) in
    let line_is : line_at text (get_or row j 0) ≡ suc j = omega (arith, end.line_is) in
    sym (grind (arith, common_steps, end_starts, (line_start text), end.within))

-- Where a later line starts, an index ends the line before it.
pub record IsNextStart (text : List ℕ) (line next : ℕ) : Type 0 where
  pub some : 0 < next
  pub within : next ≤ length text
  pub ends : starts_line text next ≡ true
  pub line_is : line_at text next ≡ suc line

pub next_start : (text : List ℕ) (line : ℕ) → suc line ≤ line_ends text
    → IsNextStart text line (line_start text (suc line))
next_start text line h =
    let row = filter (starts_line text) (numbers_from 1 (length text - 0)) in
    let size : suc (length row) ≡ suc (line_ends text) = length-line_starts text in
    let end = end_at text 0 (length text - 0) line (omega arith) in
    let found : IsNextStart text line (get_or row line 0) = grind (arith, common_steps) in
    subst (IsNextStart text line) (start_at text (suc line) h) found
