-- Inside a line: its content is all indexes from its start to its stop, and a position goes by the characters between
-- them alone.
use Rattle.lsp_text.proofs.Prelude.{ℕ, zero, suc, ◌≡◌, ◌+◌, ◌-◌, ◌<◌, ◌≤◌, ◌⊎◌, Bool, true, false, not, ◌&&◌, cond, if◌then◌else◌, List, [], ◌∷◌, length, take, drop, sum_by, slice_index, ◌==◌, ltb as nat_lt, leb as nat_le, Option, Some, None, option_map, find, ⊎_elim, inl, inr, refl, sym, ◌∙◌, arith, eqb-true, ltb-true, ltb-false, le-ltb, le-leb, length-drop, length-take, cases_Bool, cases_eq, and_parts, and_from, or_right, not-true, not_from_false, lt-leb, eqb-false, false_from_ne_true, take-take, get_or-drop, sum_by-cons, prefix_len_is, prefix_len, Position, line_feed, carriage_return, splits_crlf, line_at, line_ends, is_in_content, line_content, line_start, line_stop, units_between, denoted, common_steps}
use Rattle.std.specs.Prelude.{MatchOption}
use Rattle.lsp_text.proofs.TextLines.RowLemmas.{find_none}
use Rattle.lsp_text.proofs.TextLines.LineLemmas.{line_rises, in_content, in_content_line, in_content_whole, line_has_start, line_has_stop, IsStart, IsStop}
use Rattle.lsp_text.proofs.Positions.PositionLemmas.{content_index}
use Rattle.std.proofs.lemmas.Grind.{common_steps}

-- The index in a line of the characters `line` that has c units before it: the line's end if it has no more, none
-- inside a character.
abbrev pub index_in_line : (ℕ → ℕ) → List ℕ → ℕ → Option ℕ
index_in_line units [] c = Some 0
index_in_line units (x ∷ line) c = if c == 0 then Some 0 else if nat_lt c (units x) then None
    else option_map suc (index_in_line units line (c - units x))

-- A line feed before an index makes it the next line.
behind_line_feed : (text : List ℕ) (k : ℕ) → (slice_index text k == line_feed) ≡ true → line_at text (suc k)
    ≡ suc (line_at text k)
behind_line_feed text k e = rw e refl

-- Behind an index that splits a CRLF the next line begins.
split_in_line : (text : List ℕ) (j stop : ℕ) → splits_crlf text j ≡ true → splits_crlf text stop ≡ false → j ≤ stop
    → line_at text j < line_at text stop
split_in_line text zero stop split whole order = absurd (cc)
split_in_line text (suc j) stop split whole order =
    ⊎_elim
    (λ (e : suc j ≡ stop). absurd (cc))
    (λ (e : suc j ≡ stop → ⊥).
    let feed : (slice_index text (suc j) == line_feed) ≡ true =
    (and_parts (slice_index text j == carriage_return) (slice_index text (suc j) == line_feed) split).1 in
    let next : line_at text (suc (suc j)) ≡ suc (line_at text (suc j)) = behind_line_feed text (suc j) feed in
    let rises : line_at text (suc (suc j)) ≤ line_at text stop = line_rises text (suc (suc j)) stop (omega arith) in
    omega arith)
    (cases_eq (suc j) stop)

-- All indexes from a line's start to its stop are in its content.
pub between_in_content : (text : List ℕ) (line start stop k : ℕ) → IsStart text line start → IsStop text line stop
    → start ≤ k → k ≤ stop → is_in_content text line k ≡ true
between_in_content text line start stop k is_start is_stop from to =
    in_content text line k here
    (false_from_ne_true (splits_crlf text k) (λ s. let more : line_at text k < line_at text stop = split_in_line text k
    stop s (in_content_whole text line stop is_stop.passes) to in omega (arith, here, stop_line)))
  where
    start_line : line_at text start ≡ line
    start_line = in_content_line text line start is_start.passes

    stop_line : line_at text stop ≡ line
    stop_line = in_content_line text line stop is_stop.passes

    here : line_at text k ≡ line
    here = omega (arith, start_line, stop_line, line_rises text start k from, line_rises text k stop to)

-- The units of the first n characters of a part of a text.
units_of_front : (units : ℕ → ℕ) (text : List ℕ) (start count n : ℕ) → n ≤ count
    → units_between units text start (start + n) ≡ sum_by units (take n (take count (drop start text)))
units_of_front units text start count n order = grind (arith, common_steps, take-take, order)

-- No index of the line has exactly c units before it, and the line has more.
abbrev IsMissed : (ℕ → ℕ) → List ℕ → ℕ → Type 0
IsMissed units line c = (c < sum_by units line) × ((n : ℕ) → n ≤ length line → sum_by units (take n line) ≡ c → ⊥)

-- The index has exactly c units before it, or is the end of a line that has no more.
abbrev IsHit : (ℕ → ℕ) → List ℕ → ℕ → ℕ → Type 0
IsHit units line c n =
    (n ≤ length line) × ((sum_by units (take n line) ≡ c) ⊎ ((n ≡ length line) × (sum_by units line ≤ c)))

one_on : {A B : Type 0} {P : ℕ → Type 0} (Q : ℕ → Type 0) (o : Option ℕ) → (A → B) → ((n : ℕ) → P n → Q (suc n))
    → MatchOption o A P → MatchOption (option_map suc o) B Q
one_on Q None none some at = none at
one_on Q (Some n) none some at = some n at

index_is : (units : ℕ → ℕ) (line : List ℕ) (c : ℕ)
    → MatchOption (index_in_line units line c) (IsMissed units line c) (IsHit units line c)
index_is units [] c = (omega arith, inr (omega arith, omega arith))
index_is units (x ∷ line) c =
    elim (cases_Bool (c == 0)) [
      | inl e ↦ rw e (omega arith, inl (sym (eqb-true c 0 e)))
      | inr e ↦ elim (cases_Bool (nat_lt c (units x))) [
        | inl l ↦ rw (e, l) (inside (eqb-false c 0 e) (ltb-true c (units x) l))
        | inr l ↦ rw (e, l) (one_on (IsHit units (x ∷ line) c) (index_in_line units line (c - units x))
            (missed (eqb-false c 0 e) (ltb-false c (units x) l)) (hit (ltb-false c (units x) l))
            (index_is units line (c - units x)))
      ]
    ]
  where
    none : (c ≡ 0 → ⊥) → IsMissed units line (c - units x) → (n : ℕ) → n ≤ suc (length line)
        → sum_by units (take n (x ∷ line)) ≡ c → ⊥
    none above ih zero order same = above (sym same)
    none above ih (suc n) order same = ih.1 n (omega arith) (omega (arith, same, sum_by-cons units x (take n line)))

    few : (c ≡ 0 → ⊥) → c < units x → (n : ℕ) → n ≤ suc (length line) → sum_by units (take n (x ∷ line)) ≡ c → ⊥
    few above less zero order same = above (sym same)
    few above less (suc n) order same = omega (arith, same, sum_by-cons units x (take n line))

    inside : (c ≡ 0 → ⊥) → c < units x → IsMissed units (x ∷ line) c
    inside above less = (rw (sum_by-cons units x line) (omega arith), few above less)

    missed : (c ≡ 0 → ⊥) → units x ≤ c → IsMissed units line (c - units x) → IsMissed units (x ∷ line) c
    missed above room ih = (rw (sum_by-cons units x line) (omega (arith, ih.0)), none above ih)

    hit : units x ≤ c → (n : ℕ) → IsHit units line (c - units x) n → IsHit units (x ∷ line) c (suc n)
    hit room n ih = (
      omega (arith, ih.0),
      ⊎_elim
          (λ (s : sum_by units (take n line) ≡ c - units x). inl (omega (arith, s, sum_by-cons units x (take n line))))
          (λ (s : (n ≡ length line) × (sum_by units line ≤ c - units x)).
          inr (omega (arith, s.0), omega (arith, s.1, sum_by-cons units x line)))
          ih.1,
    )

-- Inside a line that has these bounds, a position's character denotes the index that the line's characters alone give.
in_bounds : (units : ℕ → ℕ) → ((c : ℕ) → 1 ≤ units c) → (text : List ℕ) (line start stop c : ℕ)
    → IsStart text line start → IsStop text line stop
    → cond (nat_le (units_between units text start stop) c) (Some stop)
    (find (λ k. units_between units text start k == c) (line_content text line))
    ≡ option_map (λ n. start + n) (index_in_line units (take (stop - start) (drop start text)) c)
in_bounds units some text line start stop c is_start is_stop =
    by_index (index_in_line units (take (stop - start) (drop start text)) c) refl
  where
    order : start ≤ stop
    order = is_start.least stop (omega arith) is_stop.passes

    within : stop ≤ length text
    within = omega (arith, is_stop.in_row)

    part_length : length (take (stop - start) (drop start text)) ≡ stop - start
    part_length = simp (length-take, length-drop) (omega (arith, within))

    denoted_here : Option ℕ
    denoted_here = cond (nat_le (units_between units text start stop) c) (Some stop)
        (find (λ k. units_between units text start k == c) (line_content text line))

    at_index : (n : ℕ) → n ≤ stop - start → sum_by units (take n (take (stop - start) (drop start text))) ≡ c
        → denoted_here ≡ Some (start + n)
    at_index n less same =
        let front = units_of_front units text start (stop - start) n less ∙ same in
        rw (← front)
        (content_index units some text line start stop (start + n) is_start is_stop
        (omega (arith, within, order))
        (between_in_content text line start stop (start + n) is_start is_stop (omega arith) (omega (arith, order))))

    at_stop : (n : ℕ) → n ≡ stop - start → units_between units text start stop ≤ c → denoted_here ≡ Some (start + n)
    at_stop n e less = grind (arith, common_steps, order, le-leb)

    nowhere : c < units_between units text start stop → ((n : ℕ) → n ≤ length (take (stop - start) (drop start text))
        → sum_by units (take n (take (stop - start) (drop start text))) ≡ c → ⊥) → denoted_here ≡ None
    nowhere less none =
        rw (lt-leb (units_between units text start stop) c less)
        (find_none (is_in_content text line) (λ k. units_between units text start k == c) 0 (suc (length text))
        (λ k low in_row h w.
        let from : start ≤ k = is_start.least k (omega arith) h in
        let to : k ≤ stop = is_stop.greatest k in_row h in
        let e : start + (k - start) ≡ k = omega arith in
        let inside : k - start ≤ stop - start = omega arith in
        let front : units_between units text start (start + (k - start))
        ≡ sum_by units (take (k - start) (take (stop - start) (drop start text))) =
        units_of_front units text start (stop - start) (k - start) inside in
        let here : units_between units text start k ≡ c = eqb-true (units_between units text start k) c w in
        let front_k : units_between units text start k
        ≡ sum_by units (take (k - start) (take (stop - start) (drop start text))) = rw e at front in
        none (k - start) (omega (arith, part_length)) (cc)))

    by_index : (o : Option ℕ) → index_in_line units (take (stop - start) (drop start text)) c ≡ o → denoted_here
        ≡ option_map (λ n. start + n) (index_in_line units (take (stop - start) (drop start text)) c)
    by_index None is =
        let missed = rw is at (index_is units (take (stop - start) (drop start text)) c) in
        rw is (nowhere missed.0 missed.1)
    by_index (Some n) is =
        let hit = rw is at (index_is units (take (stop - start) (drop start text)) c) in
        rw is (⊎_elim (at_index n (omega (arith, part_length, hit.0)))
        (λ (s : (n ≡ length (take (stop - start) (drop start text)))
        × (sum_by units (take (stop - start) (drop start text)) ≤ c)). at_stop n (omega (arith, part_length, s.0)) s.1)
        hit.1)

-- A position in a line of the text denotes the index that the characters of that line alone give.
pub denoted_in_line : (units : ℕ → ℕ) → ((c : ℕ) → 1 ≤ units c) → (text : List ℕ) (p : Position)
    → p.line ≤ line_ends text → denoted units text p ≡ option_map (λ n. line_start text p.line + n)
    (index_in_line units (take (line_stop text p.line - line_start text p.line) (drop (line_start text p.line) text))
    p.character)
denoted_in_line units some text p there =
    rw (le-ltb (line_ends text) p.line there)
    (in_bounds units some text p.line (line_start text p.line) (line_stop text p.line) p.character
    (line_has_start text p.line there) (line_has_stop text p.line there))

-- The characters that end no line and begin no line end.
abbrev pub is_inside_line : ℕ → Bool
is_inside_line c = not (c == line_feed) && not (c == carriage_return)

-- Behind a character that is inside a line comes an index of the same line, which splits no CRLF.
inside_next : (text : List ℕ) (k : ℕ) → is_inside_line (slice_index text k) ≡ true
    → (line_at text (suc k) ≡ line_at text k) × (splits_crlf text (suc k) ≡ false)
inside_next text k inside = grind (arith, common_steps, not-true, and_parts, inside)

-- An index of the same line as the one before it, which splits no CRLF, has a character inside the line before it.
next_inside : (text : List ℕ) (k : ℕ) → line_at text (suc k) ≡ line_at text k → splits_crlf text (suc k) ≡ false
    → is_inside_line (slice_index text k) ≡ true
next_inside text k same whole =
    grind (arith, common_steps, and_from, not_from_false, false_from_ne_true, behind_line_feed, or_right)

-- A line's content ends at the first line feed or carriage return behind its start.
pub line_length : (text : List ℕ) (line : ℕ) → line ≤ line_ends text
    → prefix_len is_inside_line (drop (line_start text line) text) ≡ line_stop text line - line_start text line
line_length text line there = lengths (line_start text line) (line_stop text line) (line_has_start text line there)
    (line_has_stop text line there)
  where
    lengths : (start stop : ℕ) → IsStart text line start → IsStop text line stop
        → prefix_len is_inside_line (drop start text) ≡ stop - start
    lengths start stop is_start is_stop =
        prefix_len_is is_inside_line (drop start text) (stop - start) 0
        (simp length-drop (omega (arith, is_stop.in_row)))
        (λ k less. rw get_or-drop (inside k less))
        (λ less. rw (get_or-drop, to_stop) (outside (simp length-drop at less)))
      where
        order : start ≤ stop
        order = is_start.least stop (omega arith) is_stop.passes

        to_stop : start + (stop - start) ≡ stop
        to_stop = omega (arith, order)

        inside : (k : ℕ) → k < stop - start → is_inside_line (slice_index text (start + k)) ≡ true
        inside k less =
            let here = between_in_content text line start stop (start + k) is_start is_stop (omega arith) (omega arith)
            in
            let next = between_in_content text line start stop (suc (start + k)) is_start is_stop (omega arith) (omega
            arith) in
            let here_line : line_at text (start + k) ≡ line = in_content_line text line (start + k) here in
            let next_line : line_at text (suc (start + k)) ≡ line = in_content_line text line (suc (start + k)) next in
            next_inside text (start + k) (next_line ∙ sym here_line) (in_content_whole text line (suc (start + k)) next)

        outside : stop - start < length text - start → is_inside_line (slice_index text stop) ≡ false
        outside less =
            false_from_ne_true (is_inside_line (slice_index text stop))
            (λ e.
            let next = inside_next text stop e in
            let here_line : line_at text stop ≡ line = in_content_line text line stop is_stop.passes in
            let more = is_stop.greatest (suc stop) (omega arith) (in_content text line (suc stop) (next.0
            ∙ here_line) next.1) in
            omega arith)
