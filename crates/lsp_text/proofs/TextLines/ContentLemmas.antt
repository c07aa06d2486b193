-- Where a line's content ends, by the start of the next line; and that it ends at the same place of the bytes.
use Rattle.lsp_text.proofs.Prelude.{◌≡◌, ℕ, zero, suc, ◌+◌, ◌-◌, ◌≤◌, ◌<◌, true, false, cond, List, [], ◌∷◌, ◌++◌, length, drop, refl, sym, ap, ◌∙◌, arith, ⊎_elim, eqb-true, subst, encode_utf8_all, prefix_len, encode, length-append, get_or-map, length-map, cases_lt, cases_eq, cases_Bool, and_parts, and_right, nat_tests, encode_ascii, place_of, splits_crlf, line_at, line_ends, line_start, line_stop, is_in_content, line_starts, common_steps}
use Rattle.lsp_text.proofs.TextLines.LineLemmas.{line_rises, in_content, in_content_line, in_content_whole, line_has_start, line_has_stop, IsStop, splits_none_past}
use Rattle.lsp_text.proofs.Positions.InLineLemmas.{is_inside_line, line_length}
use Rattle.lsp_text.proofs.TextLines.StartRowLemmas.{next_start, IsNextStart, start_at, length-line_starts}
use Rattle.lsp_text.proofs.TextLines.StartLemmas.{starts_of_bytes, AllHigh, encode_high}
use Rattle.lsp_text.proofs.Positions.PlaceLemmas.{place_add, drop_place}
use Rattle.std.proofs.lemmas.Grind.{common_steps}

-- Before an index that splits a CRLF stands an index of the same line, which splits none.
before_split : (text : List ℕ) (k : ℕ) → splits_crlf text (suc k) ≡ true → (line_at text (suc k) ≡ line_at text k)
    × (splits_crlf text k ≡ false)
before_split text k split = grind (arith, common_steps, and_parts, eqb-true, and_right)

-- A line's content ends before its line end: one index before the next line's start, or two where that would split a
-- CRLF.
pub stop_is : (text : List ℕ) (line k : ℕ) → suc line ≤ line_ends text → line_start text (suc line) ≡ suc k
    → line_stop text line ≡ cond (splits_crlf text k) (k - 1) k
stop_is text line k there start =
    ⊎_elim
    (λ (e : splits_crlf text k ≡ true). rw e (at_split k e here (omega (arith, within)) all))
    (λ (e : splits_crlf text k ≡ false). rw e (omega (
      arith,
      all (line_stop text line) stop.passes,
      stop.greatest k (omega (arith, within)) (in_content text line k here e),
    )))
    (cases_Bool (splits_crlf text k))
  where
    next : IsNextStart text line (suc k)
    next = subst (IsNextStart text line) start (next_start text line there)

    within : suc k ≤ length text
    within = next.within

    here : line_at text k ≡ line
    here = let e : line_at text (suc k) ≡ suc (line_at text k) = rw next.ends refl in omega (arith, next.line_is)

    stop : IsStop text line (line_stop text line)
    stop = line_has_stop text line (omega arith)

    all : (j : ℕ) → is_in_content text line j ≡ true → j ≤ k
    all j inside =
        ⊎_elim
        (λ (h : k < j). grind (arith, common_steps, (line_rises text (suc k) j h), (in_content_line text line j inside), next.line_is))
        (λ (h : j ≤ k). h)
        (cases_lt k j)

    at_split : (k : ℕ) → splits_crlf text k ≡ true → line_at text k ≡ line → k ≤ length text
        → ((j : ℕ) → is_in_content text line j ≡ true → j ≤ k) → line_stop text line ≡ k - 1
    at_split zero e here within all = absurd (cc)
    at_split (suc j) e here within all =
        let before = before_split text j e in
        let whole = in_content_whole text line (line_stop text line) stop.passes in
        ⊎_elim
        (λ (h : line_stop text line ≡ suc j). grind (arith, common_steps, splits_crlf))
        (λ (h : line_stop text line ≡ suc j → ⊥).
        omega (
          arith,
          h,
          all (line_stop text line) stop.passes,
          stop.greatest j (omega arith) (in_content text line j (sym before.0 ∙ here) before.1),
        ))
        (cases_eq (line_stop text line) (suc j))

pub stop_behind : (text : List ℕ) (line : ℕ) → line ≤ line_ends text → line_start text line ≤ line_stop text line
stop_behind text line there =
    grind (arith, common_steps, line_has_stop, line_has_start, line_stop)

pub stop_within : (text : List ℕ) (line : ℕ) → line ≤ line_ends text → line_stop text line ≤ length text
stop_within text line there = omega (arith, (line_has_stop text line there).in_row)

-- The last line's content ends at the end of the text.
pub last_stop : (text : List ℕ) → line_stop text (line_ends text) ≡ length text
last_stop text =
    grind (arith, common_steps, line_has_stop, line_ends, in_content, splits_none_past)

-- The lines of the bytes are at the places of those of the characters.
pub same_line_ends : (text : List ℕ) → line_ends (encode_utf8_all text) ≡ line_ends text
same_line_ends text =
    omega (
      arith,
      ap length (starts_of_bytes text),
      length-map (line_starts text) (place_of text),
      length-line_starts text,
      length-line_starts (encode_utf8_all text),
    )

pub same_start : (text : List ℕ) (line : ℕ) → line ≤ line_ends text → place_of text (line_start text line)
    ≡ line_start (encode_utf8_all text) line
same_start text line there =
    grind (arith, common_steps, start_at, get_or-map, length-line_starts, starts_of_bytes, same_line_ends)

-- The characters inside a line have all the bytes inside it.
inside_high : (b : ℕ) → 128 ≤ b → is_inside_line b ≡ true
inside_high b h = grind (arith, nat_tests)

prefix_high : (bytes rest : List ℕ) → AllHigh bytes → prefix_len is_inside_line (bytes ++ rest) ≡ length bytes
    + prefix_len is_inside_line rest
prefix_high [] rest all = omega arith
prefix_high (b ∷ bytes) rest all = rw (inside_high b all.0, prefix_high bytes rest all.1) (omega arith)

pub place_cons : (c : ℕ) (cs : List ℕ) (n : ℕ) → place_of (c ∷ cs) (1 + n) ≡ length (encode c) + place_of cs n
place_cons c cs n =
    grind (arith, common_steps, place_of, length-append, encode, encode_utf8_all)

prefix_of_bytes : (cs : List ℕ) → prefix_len is_inside_line (encode_utf8_all cs)
    ≡ place_of cs (prefix_len is_inside_line cs)
prefix_of_bytes [] = refl
prefix_of_bytes (c ∷ cs) =
    grind (
      arith,
      common_steps,
      is_inside_line,
      encode_ascii,
      inside_high,
      prefix_high,
      encode,
      encode_high,
      place_cons,
      cases_lt,
      (prefix_of_bytes cs),
    )

-- The content of a line ends at one place, whether it is told by characters or by bytes.
pub same_stop : (text : List ℕ) (line : ℕ) → line ≤ line_ends text → place_of text (line_stop text line)
    ≡ line_stop (encode_utf8_all text) line
same_stop text line there =
    let bytes = encode_utf8_all text in
    let start = line_start text line in
    let begin : place_of text start ≡ line_start bytes line = same_start text line there in
    let front : prefix_len is_inside_line (drop start text) ≡ line_stop text line - start =
    line_length text line there in
    let byte_front = line_length bytes line (omega (arith, same_line_ends text)) in
    let rest : drop (line_start bytes line) bytes ≡ encode_utf8_all (drop start text) =
    ap (λ n. drop n bytes) (sym begin) ∙ drop_place text start in
    let order : start ≤ line_stop text line = stop_behind text line there in
    let byte_order = stop_behind bytes line (omega (arith, same_line_ends text)) in
    let sum : start + (line_stop text line - start) ≡ line_stop text line = omega arith in
    let whole : place_of text (line_stop text line) ≡ place_of text start + place_of (drop start text)
    (line_stop text line - start) = ap (place_of text) (sym sum) ∙ place_add text start (line_stop text line - start) in
    let part : prefix_len is_inside_line (drop (line_start bytes line) bytes) ≡ place_of (drop start text)
    (line_stop text line - start) =
    ap (prefix_len is_inside_line) rest ∙ (prefix_of_bytes (drop start text) ∙ ap (place_of (drop start text)) front) in
    omega arith
