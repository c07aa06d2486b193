-- The line starts of a text in which some bytes were replaced: those before stay, those behind move, and those between
-- are found anew.
use Rattle.lsp_text.proofs.Prelude.{◌≡◌, ℕ, zero, suc, ◌+◌, ◌-◌, ◌≤◌, ◌<◌, ◌^◌, Bool, true, false, List, [], ◌∷◌, ◌++◌, length, take, drop, map, get_or, filter, refl, sym, ap, ◌∙◌, arith, ⊎_elim, subst, length-append, length-drop, length-take, get_or-take, get_or-drop, get_or-append_right, get_or_append_left, take_at, drop_at, append_assoc, map-id, cases_lt, cases_Bool, starts_line, numbers_from, AreLinesOf, starts_between, line_starts, IsLineOf, AreStarts, Result, Ok, Err, OnOk, OnErr, IsUtf8, common_steps}
use Rattle.std.proofs.lemmas.List.Elements.{filter-append}
use Rattle.lsp_text.specs.Splice.{IsReplaced}
use Rattle.lsp_text.specs.inside.Splice.{Replaces}
use Rattle.lsp_text.proofs.TextLines.StartLemmas.{starts_of_text}
use Rattle.lsp_text.proofs.TextLines.IndexesLemmas.{indexes_from}
use Rattle.lsp_text.proofs.TextLines.StartRowLemmas.{filter_ascends, ascends_from, line_starts_are}
use Rattle.std.proofs.lemmas.Grind.{common_steps}

-- Rows of numbers.
pub numbers_split : (first m n : ℕ) → numbers_from first (m + n) ≡ numbers_from first m ++ numbers_from (first + m) n
numbers_split first zero n = grind (arith, common_steps)
numbers_split first (suc m) n =
    let a : suc m + n ≡ suc (m + n) = omega arith in
    let b : suc first + m ≡ first + suc m = omega arith in
    ap (numbers_from first) a ∙ ap (λ xs. first ∷ xs) (numbers_split (suc first) m n
    ∙ ap (λ f. numbers_from (suc first) m ++ numbers_from f n) b)

-- The line ends of two neighbouring stretches are those of both.
pub ends_split : (text : List ℕ) (low mid high : ℕ) → low ≤ mid → mid ≤ high → starts_between text low high
    ≡ starts_between text low mid ++ starts_between text mid high
ends_split text low mid high first second =
    let sum : high - low ≡ (mid - low) + (high - mid) = omega arith in
    ap (λ n. filter (starts_line text) (numbers_from (suc low) n)) sum ∙
    (grind (arith, common_steps, numbers_split, low, filter-append))

-- Two tests that agree along two rows choose numbers that agree.
pub filter_moved : (move : ℕ → ℕ) (test other : ℕ → Bool) (a b n : ℕ) → ((j : ℕ) → j < n → test (a + j) ≡ other (b + j))
    → ((j : ℕ) → j < n → move (a + j) ≡ b + j) →
    map move (filter test (numbers_from a n)) ≡ filter other (numbers_from b n)
filter_moved move test other a b zero same moves = refl
filter_moved move test other a b (suc n) same moves =
    let a0 : a + 0 ≡ a = omega arith in
    let b0 : b + 0 ≡ b = omega arith in
    let here : test a ≡ other b = ap test (sym a0) ∙ (same 0 (omega arith) ∙ ap other b0) in
    let moved : move a ≡ b = ap move (sym a0) ∙ (moves 0 (omega arith) ∙ b0) in
    let later = filter_moved move test other (suc a) (suc b) n (λ j h. ap test (omega arith)
    ∙ (same (suc j) (omega arith) ∙ ap other (omega arith))) (λ j h. ap move (omega arith)
    ∙ (moves (suc j) (omega arith) ∙ omega arith)) in
    ⊎_elim
    (λ (e : other b ≡ true). let f : test a ≡ true = here ∙ e in rw (e, f, moved) (ap (λ xs. b ∷ xs) later))
    (λ (e : other b ≡ false). let f : test a ≡ false = here ∙ e in rw (e, f) later)
    (cases_Bool (other b))

-- A number of a filtered row lies in the row.
pub filter_below : (test : ℕ → Bool) (low n k : ℕ) → k < length (filter test (numbers_from low n))
    → get_or (filter test (numbers_from low n)) k 0 < low + n
filter_below test low zero k h = absurd (omega arith)
filter_below test low (suc n) k h = grind (arith, common_steps, low, (filter_below test (suc low) n))

ends_upto : (text : List ℕ) (low high k : ℕ) → low ≤ high → k < length (starts_between text low high)
    → get_or (starts_between text low high) k 0 ≤ high
ends_upto text low high k order h = omega (arith, filter_below (starts_line text) (suc low) (high - low) k h)

pub ends_behind : (text : List ℕ) (low high k : ℕ) → k < length (starts_between text low high)
    → low < get_or (starts_between text low high) k 0
ends_behind text low high k h =
    ascends_from (suc low) (starts_between text low high) (filter_ascends (starts_line text) (suc low) (high - low)) k h

-- A row in two parts, where the first holds what is at most a place and the second what is above it: the last at most
-- the place ends
-- the first part.
count_front : (front rest_after : List ℕ) (place line : ℕ) → 0 < length front
    → ((k : ℕ) → k < length front → get_or front k 0 ≤ place)
    → ((k : ℕ) → k < length rest_after → place < get_or rest_after k 0) →
    IsLineOf (front ++ rest_after) place line → line + 1 ≡ length front
count_front front rest_after place line some low high found =
    let size : length (front ++ rest_after) ≡ length front + length rest_after = length-append front rest_after in
    ⊎_elim
    (λ (h : line + 1 < length front).
    let last = length front - 1 in
    let at = get_or_append_left front rest_after 0 last (omega arith) in
    absurd (omega (arith, at, low last (omega arith), found.greatest last (omega arith) (omega (arith, size)))))
    (λ (h : length front ≤ line + 1).
    grind (arith, common_steps, get_or-append_right, cases_lt))
    (cases_lt (line + 1) (length front))

-- The starts up to a place, and those behind it.
pub record IsCut (text : List ℕ) (place count : ℕ) : Type 0 where
  pub front : take count (line_starts text) ≡ 0 ∷ starts_between text 0 place
  pub rest_after : drop count (line_starts text) ≡ starts_between text place (length text)

pub starts_cut : (text : List ℕ) (place count : ℕ) → place ≤ length text → 0 < count
    → IsLineOf (line_starts text) place (count - 1) → IsCut text place count
starts_cut text place count within some found =
    let front = 0 ∷ starts_between text 0 place in
    let rest_after = starts_between text place (length text) in
    let whole : line_starts text ≡ front ++ rest_after =
    ap (λ xs. 0 ∷ xs) (ends_split text 0 place (length text) (omega arith) within) in
    let counted = count_front front rest_after place (count - 1) (omega arith) (low place) (ends_behind text place (length text))
    (subst (λ xs. IsLineOf xs place (count - 1)) whole found) in
    let size : length front ≡ count = omega arith in
    record {
      front = ap (take count) whole ∙ take_at front rest_after count size;
      rest_after = ap (drop count) whole ∙ drop_at front rest_after count size;
    }
  where
    low : (place : ℕ) (k : ℕ) → k < length (0 ∷ starts_between text 0 place) → get_or (0 ∷ starts_between text 0 place) k 0
        ≤ place
    low place zero h = omega arith
    low place (suc k) h = ends_upto text 0 place k (omega arith) (omega arith)

-- What a replacement leaves of line ends.
module _ (old bytes : List ℕ) (from to len : ℕ) (is : IsReplaced old bytes from to len) where
  same_front : (k : ℕ) → k < from → get_or bytes k 0 ≡ get_or old k 0
  same_front k h = sym (get_or-take from bytes k 0 h) ∙ (ap (λ xs. get_or xs k 0) is.front ∙ get_or-take from old k 0 h)

  same_back : (i : ℕ) → get_or old (to + i) 0 ≡ get_or bytes (from + len + i) 0
  same_back i =
      sym (get_or-drop to old i 0) ∙ (ap (λ xs. get_or xs i 0) (sym is.back) ∙ get_or-drop (from + len) bytes i 0)

  pub same_length : length bytes - (from + len) ≡ length old - to
  same_length = omega (arith, length-drop (from + len) bytes, length-drop to old, ap length is.back)

  ends_front : (k : ℕ) → suc k < from → starts_line old (suc k) ≡ starts_line bytes (suc k)
  ends_front k h = grind (arith, common_steps, same_front)

  ends_back : (i : ℕ) → starts_line old (suc (to + i)) ≡ starts_line bytes (suc (from + len + i))
  ends_back i =
      grind (arith, common_steps, (same_back (suc i)), (same_back i))

  -- those before the edit stay
  pub front_stays : starts_between old 0 (from - 1) ≡ starts_between bytes 0 (from - 1)
  front_stays =
      sym (map-id (starts_between old 0 (from - 1))) ∙
      filter_moved (λ x. x) (starts_line old) (starts_line bytes) 1 1 (from - 1 - 0)
      (λ j h. grind (arith, common_steps, starts_line, ends_front))
      (λ j h. refl)

  -- those behind it move with its end
  pub back_moves : map (λ start. start - to + (from + len)) (starts_between old to (length old))
      ≡ starts_between bytes (from + len) (length bytes)
  back_moves =
      filter_moved (λ start. start - to + (from + len)) (starts_line old) (starts_line bytes) (suc to) (suc (from + len))
      (length old - to)
      (λ j h. let a : suc to + j ≡ suc (to + j) = omega arith in
      let b : suc (from + len) + j ≡ suc (from + len + j) = omega arith in
      ap (starts_line old) a ∙ (ends_back j ∙ ap (starts_line bytes) (sym b)))
      (λ j h. omega arith) ∙
      ap (λ n. filter (starts_line bytes) (numbers_from (suc (from + len)) n)) (sym same_length)

  -- So the starts are those before, those found anew, and those behind, moved.
  pub starts_spliced : line_starts bytes ≡ (0 ∷ starts_between old 0 (from - 1))
      ++ (starts_between bytes (from - 1) (from + len) ++ map (λ start. start - to + (from + len))
      (starts_between old to (length old)))
  starts_spliced =
      ap (λ xs. 0 ∷ xs)
      (ends_split bytes 0 (from - 1) (length bytes) (omega arith) (omega (arith, is.inserted)) ∙
      (ap (λ xs. starts_between bytes 0 (from - 1) ++ xs) (ends_split bytes (from - 1) (from + len) (length bytes)
      (omega arith) is.inserted) ∙
      (ap (λ xs. xs ++ (starts_between bytes (from - 1) (from + len) ++ starts_between bytes (from + len) (length bytes)))
      (sym front_stays) ∙
      ap (λ xs. starts_between old 0 (from - 1) ++ (starts_between bytes (from - 1) (from + len) ++ xs)) (sym back_moves))))

-- What the code does: it cuts the starts at both ends of the edit, puts what it found between, and moves those behind.
pub record IsPlaced (old bytes starts found now : List ℕ) (from to len keep past count : ℕ) : Type 0 where
  pub is : IsReplaced old bytes from to len
  pub starts_are : starts ≡ line_starts old
  pub some_keep : 0 < keep
  pub keep_is : IsLineOf starts (from - 1) (keep - 1)
  pub some_past : 0 < past
  pub past_is : IsLineOf starts to (past - 1)
  pub found_is : found ≡ starts_between bytes (from - 1) (from + len)
  pub counted : count ≡ length found
  pub now_is : now ≡ take keep starts ++ (found ++ drop past starts)

module _ (old bytes starts found now : List ℕ) (from to len keep past count : ℕ)
    (placed : IsPlaced old bytes starts found now from to len keep past count) where
  cut_keep : IsCut old (from - 1) keep
  cut_keep = starts_cut old (from - 1) keep (omega (arith, placed.is.order, placed.is.within)) placed.some_keep
      (subst (λ xs. IsLineOf xs (from - 1) (keep - 1)) placed.starts_are placed.keep_is)

  cut_past : IsCut old to past
  cut_past = starts_cut old to past placed.is.within placed.some_past
      (subst (λ xs. IsLineOf xs to (past - 1)) placed.starts_are placed.past_is)

  front_is : take keep starts ≡ 0 ∷ starts_between old 0 (from - 1)
  front_is = ap (take keep) placed.starts_are ∙ cut_keep.front

  behind_is : drop past starts ≡ starts_between old to (length old)
  behind_is = ap (drop past) placed.starts_are ∙ cut_past.rest_after

  front_length : length (take keep starts ++ found) ≡ keep + count
  front_length = grind (arith, common_steps, length-append, length-take, placed.counted)

  grouped : now ≡ (take keep starts ++ found) ++ drop past starts
  grouped = placed.now_is ∙ sym (append_assoc (take keep starts) found (drop past starts))

  now_front : take (keep + count) now ≡ take keep starts ++ found
  now_front = ap (take (keep + count)) grouped ∙ take_at (take keep starts ++ found) (drop past starts)
      (keep + count) front_length

  now_behind : drop (keep + count) now ≡ drop past starts
  now_behind = ap (drop (keep + count)) grouped ∙ drop_at (take keep starts ++ found) (drop past starts)
      (keep + count) front_length

  behind_at : (k : ℕ) → keep + count ≤ k → k < length now → (to < get_or now k 0) × (get_or now k 0 ≤ length old)
  behind_at k low high =
      let i = k - (keep + count) in
      let row = starts_between old to (length old) in
      let at : get_or now k 0 ≡ get_or row i 0 =
      grind (arith, common_steps, get_or-drop, now_behind, behind_is) in
      let inside : i < length row = grind (arith, common_steps, length-drop, now_behind, behind_is) in (
        omega (arith, at, ends_behind old to (length old) i inside),
        omega (arith, at, ends_upto old to (length old) i placed.is.within inside),
      )

  pub placed_behind : (k : ℕ) → keep + count ≤ k → k < length now → to ≤ get_or now k 0
  placed_behind k low high = omega (arith, (behind_at k low high).0)

  pub placed_room : length bytes ≤ 2147483648 → (k : ℕ) → keep + count ≤ k → k < length now
      → get_or now k 0 - to + (from + len) < 2 ^ 32
  placed_room small k low high =
      omega (
        arith,
        (behind_at k low high).0,
        (behind_at k low high).1,
        same_length old bytes from to len placed.is,
        placed.is.inserted,
        placed.is.within,
      )

  pub placed_starts : take (keep + count) now ++ map (λ start. start - to + (from + len))
      (drop (keep + count) now) ≡ line_starts bytes
  placed_starts = grind (arith, common_steps, now_front, now_behind, behind_is, append_assoc, front_is, starts_spliced)

  -- The row that was written back whole has the line starts.
  pub placed_whole : (new rest_after : List ℕ) (n : ℕ) → length new ≡ n → new ≡ take (keep + count) now
      ++ map (λ start. start - to + (from + len)) (drop (keep + count) now) →
      take n (new ++ drop (length new) rest_after) ≡ line_starts bytes
  placed_whole new rest_after n size moved = grind (arith, common_steps, take_at, placed_starts)

pub line_of_same : (starts shown : List ℕ) (place error line : ℕ) → shown ≡ starts → error ≡ place
    → IsLineOf shown error line → IsLineOf starts place line
line_of_same starts shown place error line same is found =
    subst (λ xs. IsLineOf xs place line) same (subst (λ p. IsLineOf shown p line) is found)

pub starts_are_same : (old starts shown : List ℕ) → shown ≡ starts → starts ≡ line_starts old → AreStarts shown
starts_are_same old starts shown same are = subst AreStarts (sym (same ∙ are)) (line_starts_are old)

-- What was found anew, where nothing stood before.
pub found_anew : (bytes before found : List ℕ) (low error end : ℕ) → before ≡ [] → error ≡ low
    → found ≡ before ++ starts_between bytes error end → found ≡ starts_between bytes low end
found_anew bytes before found low error end empty is found_is =
    found_is ∙ (ap (λ xs. xs ++ starts_between bytes error end) empty ∙ ap (λ l. starts_between bytes l end) is)

-- Lines of a text that was replaced, seen as line starts of its bytes, and back.
pub replaces_from : (old lines starts bytes read : List ℕ) (from to len : ℕ) → starts ≡ lines → AreLinesOf lines old
    → IsUtf8 old → read ≡ bytes → IsReplaced old bytes from to len → Replaces starts read from to len
replaces_from old lines starts bytes read from to len same indexes utf8 is replaced = record {
  old = old;
  starts_are = same ∙ (indexes.starts ∙ sym (starts_of_text old utf8));
  replaced = subst (λ bs. IsReplaced old bs from to len) (sym is) replaced;
}

module _ {T E : Type 0} (starts bytes read : List ℕ) (is : read ≡ bytes) where
  pub indexes_ok : (r : Result T E) → IsUtf8 bytes → length bytes ≤ 2147483648 → OnOk r (starts ≡ line_starts read)
      → OnOk r (AreLinesOf starts bytes)
  indexes_ok (Ok x) utf8 size looks_made = indexes_from bytes starts utf8 size (looks_made ∙ ap line_starts is)
  indexes_ok (Err e) utf8 size looks_made = looks_made

  pub starts_kept : (r : Result T E) (old : List ℕ) → AreStarts old → OnOk r (starts ≡ line_starts read)
      → OnErr r (starts ≡ old) → AreStarts starts
  starts_kept (Ok x) old are looks_made kept = subst AreStarts (sym looks_made) (line_starts_are read)
  starts_kept (Err e) old are looks_made kept = subst AreStarts (sym kept) are
