-- The lines of a text part it.
use Rattle.lsp_text.proofs.Prelude.{◌≡◌, ◌≢◌, ℕ, zero, suc, ◌+◌, ◌-◌, ◌≤◌, ◌<◌, true, false, not, ◌&&◌, ◌==◌, cond, List, [], ◌∷◌, length, take, drop, get_or, slice_index, inl, inr, sym, ap, ◌∙◌, arith, ⊎_elim, eqb-true, eq-eqb, drop-cons, prefix_len, get_or-drop, length-take, length-drop, prefix_len_passes, cases_Bool, and_parts, or_cases, not-true, line_feed, carriage_return, starts_line, splits_crlf, line_ends, line_start, line_stop, IsLineEnd, line_end_of, LinesPart, common_steps}
use Rattle.lsp_text.proofs.TextLines.LineLemmas.{line_rises}
use Rattle.lsp_text.proofs.Positions.InLineLemmas.{is_inside_line, line_length}
use Rattle.lsp_text.proofs.TextLines.StartRowLemmas.{first_starts, next_start}
use Rattle.lsp_text.proofs.TextLines.ContentLemmas.{stop_is, stop_behind, last_stop}
use Rattle.std.proofs.lemmas.Grind.{common_steps}

-- the characters of a line's content
inside : (text : List ℕ) (line k : ℕ) → line ≤ line_ends text → line_start text line ≤ k → k < line_stop text line
    → is_inside_line (slice_index text k) ≡ true
inside text line k there low high =
    let start = line_start text line in
    let at : start + (k - start) ≡ k = omega arith in
    let less : k - start < prefix_len is_inside_line (drop start text) = omega (arith, line_length text line there) in
    ap (λ i. is_inside_line (get_or text i 0)) (sym at)
    ∙ (grind (arith, common_steps, is_inside_line, get_or-drop, prefix_len_passes))

not_feed : (x : ℕ) → is_inside_line x ≡ true → x ≢ line_feed
not_feed x h e = grind (arith, common_steps, not-true, and_parts, eq-eqb)

not_return : (x : ℕ) → is_inside_line x ≡ true → x ≢ carriage_return
not_return x h e = grind (arith, common_steps, not-true, and_parts, eq-eqb)

-- one character, and two
take_one : (text : List ℕ) (k : ℕ) → k < length text → take 1 (drop k text) ≡ get_or text k 0 ∷ []
take_one text k h = ap (take 1) (drop-cons text k 0 h)

take_two : (text : List ℕ) (k : ℕ) → suc k < length text → take 2 (drop k text) ≡ get_or text k 0 ∷ get_or text (suc k)
    0 ∷ []
take_two text k h =
    ap (take 2) (drop-cons text k 0 (omega arith) ∙ ap (λ xs. get_or text k 0 ∷ xs) (drop-cons text (suc k) 0 h))

one_end : (text : List ℕ) (k : ℕ) → k < length text → starts_line text (suc k) ≡ true → IsLineEnd (take 1 (drop k text))
one_end text k within ends = grind (arith, common_steps, inl, take_one, eqb-true, inr, and_parts, or_cases)

two_ends : (text : List ℕ) (k : ℕ) → suc k < length text → splits_crlf text (suc k) ≡ true
    → IsLineEnd (take 2 (drop k text))
two_ends text k within split = grind (arith, common_steps, and_parts, inr, take_two, eqb-true)

-- the line end from where the content stops to where the next line starts
end_from : (text : List ℕ) (line stop size : ℕ) → line_stop text line ≡ stop → line_start text (suc line) - stop ≡ size
    → IsLineEnd (take size (drop stop text)) → IsLineEnd (line_end_of text line)
end_from text line stop size here long end = rw (here, long) end

line_end_is : (text : List ℕ) (line k : ℕ) → line < line_ends text → line_start text (suc line) ≡ suc k
    → IsLineEnd (line_end_of text line)
line_end_is text line zero there start =
    let next = next_start text line there in
    let ends : starts_line text 1 ≡ true = ap (starts_line text) (sym start) ∙ next.ends in
    end_from text line 0 1 (stop_is text line 0 there start) (omega (arith, start))
    (one_end text 0 (omega (arith, start, next.within)) ends)
line_end_is text line (suc k) there start =
    let next = next_start text line there in
    let ends : starts_line text (suc (suc k)) ≡ true = ap (starts_line text) (sym start) ∙ next.ends in
    let stop = stop_is text line (suc k) there start in
    ⊎_elim
    (λ (e : splits_crlf text (suc k) ≡ true).
    let here : line_stop text line ≡ k = stop ∙ (ap (λ b. cond b (suc k - 1) (suc k)) e ∙ omega arith) in
    end_from text line k 2 here (omega (arith, start)) (two_ends text k (omega (arith, start, next.within)) e))
    (λ (e : splits_crlf text (suc k) ≡ false).
    let here : line_stop text line ≡ suc k = stop ∙ ap (λ b. cond b (suc k - 1) (suc k)) e in
    end_from text line (suc k) 1 here (omega (arith, start)) (grind (arith, common_steps, one_end)))
    (cases_Bool (splits_crlf text (suc k)))

-- A carriage return that ends a line by itself has no line feed after it.
return_alone : (text : List ℕ) (line k : ℕ) → line < line_ends text → line_start text (suc line) ≡ suc k →
    line_end_of text line ≡ carriage_return ∷ [] → slice_index text (suc k) ≢ line_feed
return_alone text line k there start alone feed =
    let next = next_start text line there in
    let within : k < length text = omega (arith, start, next.within) in
    let size = line_start text (suc line) - line_stop text line in
    let stop : line_stop text line ≡ k =
    omega (
      arith,
      start,
      next.within,
      ap length alone,
      length-take size (drop (line_stop text line) text),
      length-drop (line_stop text line) text,
    ) in
    let one : size ≡ 1 = omega (arith, start, stop) in
    let same : take 1 (drop k text) ≡ carriage_return ∷ [] = rw (one, stop) at alone in
    let ends : starts_line text (suc k) ≡ true = ap (starts_line text) (sym start) ∙ next.ends in
    ⊎_elim
    (λ (h : (slice_index text k == line_feed) ≡ true). grind (arith, common_steps, eqb-true))
    (λ (h : ((slice_index text k == carriage_return) && not (slice_index text (suc k) == line_feed)) ≡ true).
    grind (arith, common_steps, not-true, and_parts, eq-eqb))
    (grind (arith, common_steps, or_cases, line_feed, carriage_return))

crlf_is_one : (text : List ℕ) (line : ℕ) → line < line_ends text → line_end_of text line ≡ carriage_return ∷ [] →
    slice_index text (line_start text (suc line)) ≢ line_feed
crlf_is_one text line there alone feed = grind (arith, common_steps, next_start, return_alone)

pub lines_part : (text : List ℕ) → LinesPart text
lines_part text = record {
  first = first_starts text;
  last = last_stop text;
  order = stop_behind text;
  ends = λ line there. line_end_is text line (line_start text (suc line) - 1) there
      (omega (arith, (next_start text line there).some));
  crlf_is_one = crlf_is_one text;
  no_feed = λ line k there low high. not_feed (slice_index text k) (inside text line k there low high);
  no_return = λ line k there low high. not_return (slice_index text k) (inside text line k there low high);
  each = λ k within. line_rises text k (length text) within;
}
