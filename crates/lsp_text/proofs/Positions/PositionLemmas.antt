-- Positions: an exact position denotes its index, and whatever a position denotes is an index of the text that splits
-- no CRLF.
use Rattle.lsp_text.proofs.Prelude.{ℕ, suc, ◌≡◌, ◌<◌, ◌≤◌, true, false, cond, List, length, ◌==◌, ltb as nat_lt, leb as nat_le, Some, find, ⊎_elim, refl, ap, arith, eqb-true, eq-eqb, le-ltb, ltb-false, le-leb, cases_Bool, cases_eq, lt-leb, leb-true, Position, splits_crlf, line_at, line_ends, is_in_content, line_content, line_start, line_stop, units_between, exact_position, denoted, common_steps}
use Rattle.lsp_text.proofs.TextLines.RowLemmas.{find_only, IsFound, find_found}
use Rattle.lsp_text.proofs.TextLines.LineLemmas.{line_rises, splits_none_past, in_content, in_content_line, in_content_whole, start_in_content, stop_in_content, line_has_stop, IsStart, IsStop}
use Rattle.lsp_text.proofs.Counting.UnitLemmas.{units_rise, units_same}
use Rattle.std.proofs.lemmas.Grind.{common_steps}

-- The index of a content with the units of an index of that content is that index.
pub content_index : (units : ℕ → ℕ) → ((c : ℕ) → 1 ≤ units c) → (text : List ℕ) (line start stop k : ℕ)
    → IsStart text line start → IsStop text line stop → k ≤ length text → is_in_content text line k ≡ true
    → cond (nat_le (units_between units text start stop) (units_between units text start k)) (Some stop)
    (find (λ j. units_between units text start j == units_between units text start k) (line_content text line)) ≡ Some k
content_index units some text line start stop k is_start is_stop within content =
    ⊎_elim
    (λ (e : k ≡ stop). grind (arith, common_steps, le-leb, start, stop))
    (λ (e : k ≡ stop → ⊥). rw (lt-leb (units_between units text start stop) (units_between units text start k) (less e))
    searched)
    (cases_eq k stop)
  where
    begins : start ≤ k
    begins = is_start.least k (omega arith) content

    ends : k ≤ stop
    ends = is_stop.greatest k (omega arith) content

    less : (k ≡ stop → ⊥) → units_between units text start k < units_between units text start stop
    less e = units_rise units some text start k stop begins (omega (arith, ends)) (omega (arith, is_stop.in_row))

    only : (j : ℕ) → j < suc (length text) → is_in_content text line j ≡ true
        → (units_between units text start j == units_between units text start k) ≡ true → j ≡ k
    only j in_row h e = grind (arith, common_steps, units_same, start, begins, eqb-true)

    searched : find (λ j. units_between units text start j == units_between units text start k) (line_content text line)
        ≡ Some k
    searched =
        find_only (is_in_content text line) (λ j. units_between units text start j == units_between units text start k)
        0 (suc (length text)) k
        (omega arith)
        (omega arith)
        content
        (eq-eqb (units_between units text start k) (units_between units text start k) refl)
        (λ j w. only j (omega arith))

-- An exact position denotes its index.
pub exact_denotes : (units : ℕ → ℕ) → ((c : ℕ) → 1 ≤ units c) → (text : List ℕ) (k : ℕ) → k ≤ length text
    → splits_crlf text k ≡ false → denoted units text (exact_position units text k) ≡ Some k
exact_denotes units some text k within whole =
    let there = le-ltb (line_ends text) (line_at text k) (line_rises text k (length text) within) in
    let content : is_in_content text (line_at text k) k ≡ true = in_content text (line_at text k) k refl whole in
    rw there
    (content_index units some text (line_at text k) (line_start text (line_at text k)) (line_stop text (line_at text k))
    k
    (start_in_content text (line_at text k) k within content)
    (stop_in_content text (line_at text k) k within content)
    within
    content)

-- Equal exact positions are those of one index.
pub exact_same : (units : ℕ → ℕ) → ((c : ℕ) → 1 ≤ units c) → (text : List ℕ) (j k : ℕ) → j ≤ length text
    → splits_crlf text j ≡ false → k ≤ length text → splits_crlf text k ≡ false → exact_position units text j
    ≡ exact_position units text k → j ≡ k
exact_same units some text j k to_j whole_j to_k whole_k same =
    let at_j = exact_denotes units some text j to_j whole_j in
    let at_k = exact_denotes units some text k to_k whole_k in
    let both : denoted units text (exact_position units text j) ≡ denoted units text (exact_position units text k) =
    ap (denoted units text) same in
    cc

-- What a position denotes is an index of the text, and splits no CRLF.
pub record IsWhole (text : List ℕ) (k : ℕ) : Type 0 where
  pub within : k ≤ length text
  pub whole : splits_crlf text k ≡ false

pub denoted_whole : (units : ℕ → ℕ) (text : List ℕ) (p : Position) (k : ℕ) → denoted units text p ≡ Some k
    → IsWhole text k
denoted_whole units text p k h =
    ⊎_elim
    (λ (e : nat_lt (line_ends text) p.line ≡ true).
    at_end (let s : Some (length text) ≡ Some k = rw e at h in cc))
    (λ (e : nat_lt (line_ends text) p.line ≡ false).
    in_line (ltb-false (line_ends text) p.line e) (rw e at h))
    (cases_Bool (nat_lt (line_ends text) p.line))
  where
    at_end : length text ≡ k → IsWhole text k
    at_end e = record { within = omega arith; whole = splits_none_past text k (omega arith) }

    at_stop : IsStop text p.line (line_stop text p.line) → line_stop text p.line ≡ k → IsWhole text k
    at_stop s e = record {
      within = omega (arith, s.in_row);
      whole = in_content_whole text p.line k (rw (← e) s.passes);
    }

    at_found : IsFound (is_in_content text p.line) (λ j. units_between units text (line_start text p.line) j
        == p.character) 0 (suc (length text)) k → IsWhole text k
    at_found f = record { within = omega (arith, f.in_row); whole = in_content_whole text p.line k f.passes }

    in_line : p.line ≤ line_ends text
        → cond (nat_le (units_between units text (line_start text p.line) (line_stop text p.line)) p.character)
        (Some (line_stop text p.line)) (find (λ j. units_between units text (line_start text p.line) j == p.character)
        (line_content text p.line)) ≡ Some k → IsWhole text k
    in_line there g =
        ⊎_elim
        (λ (e : nat_le (units_between units text (line_start text p.line) (line_stop text p.line)) p.character ≡ true).
        at_stop (line_has_stop text p.line there) (let s : Some (line_stop text p.line) ≡ Some k = rw e at g in cc))
        (λ (e : nat_le (units_between units text (line_start text p.line) (line_stop text p.line)) p.character ≡ false).
        at_found (find_found (is_in_content text p.line) (λ j. units_between units text (line_start text p.line) j
        == p.character) 0 (suc (length text)) k (rw e at g)))
        (cases_Bool (nat_le (units_between units text (line_start text p.line) (line_stop text p.line)) p.character))

-- A position that isn't past an end is the exact position of what it denotes.
pub denoted_exact : (units : ℕ → ℕ) (text : List ℕ) (p : Position) (k : ℕ) → p.line ≤ line_ends text →
    p.character ≤ units_between units text (line_start text p.line) (line_stop text p.line) → denoted units text p
    ≡ Some k → exact_position units text k ≡ p
denoted_exact units text p k there within h =
    let g = rw (le-ltb (line_ends text) p.line there) at h in
    ⊎_elim
    (λ (e : nat_le (units_between units text start stop) p.character ≡ true).
    grind (arith, common_steps, at_stop, leb-true, units_between))
    (λ (e : nat_le (units_between units text start stop) p.character ≡ false).
    at_found (find_found (is_in_content text p.line) (λ j. units_between units text start j == p.character) 0
    (suc (length text)) k (rw e at g)))
    (cases_Bool (nat_le (units_between units text start stop) p.character))
  where
    start : ℕ
    start = line_start text p.line

    stop : ℕ
    stop = line_stop text p.line

    exact : line_at text k ≡ p.line → units_between units text start k ≡ p.character → exact_position units text k ≡ p
    exact line units_are = grind (arith, common_steps)

    at_stop : units_between units text start stop ≤ p.character → stop ≡ k → exact_position units text k ≡ p
    at_stop least e = grind (arith, common_steps, line_has_stop, exact, in_content_line, start)

    at_found : IsFound (is_in_content text p.line) (λ j. units_between units text start j == p.character) 0
        (suc (length text)) k → exact_position units text k ≡ p
    at_found f = exact (in_content_line text p.line k f.passes) (grind (arith, common_steps, eqb-true, units_between))
