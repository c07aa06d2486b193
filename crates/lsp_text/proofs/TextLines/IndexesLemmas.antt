-- What it gives that lines are those of a text.
use Rattle.lsp_text.proofs.Prelude.{◌≡◌, ℕ, suc, ◌+◌, ◌≤◌, List, [], ◌∷◌, ◌++◌, length, slice_index, cond, ◌<◌, ◌-◌, sym, ap, ◌∙◌, arith, subst, length-map, get_or-map, chars, IsUtf8, place_of, line_ends, line_start, line_stop, splits_crlf, AreLinesOf, line_starts, starts_between, AreStarts, encodes-chars, encode_utf8_all, common_steps}
use Rattle.lsp_text.proofs.TextLines.StartLemmas.{starts_of_text}
use Rattle.lsp_text.proofs.TextLines.StartRowLemmas.{line_starts_are, length-line_starts, start_at, next_start, IsNextStart}
use Rattle.lsp_text.proofs.Positions.PlaceLemmas.{place_end}
use Rattle.lsp_text.proofs.TextLines.ContentLemmas.{last_stop, same_line_ends, same_start, same_stop, stop_is}
use Rattle.std.proofs.lemmas.Grind.{common_steps}

-- Lines made of the bytes of a text are those of the text.
pub indexes_from : (bytes starts : List ℕ) → IsUtf8 bytes → length bytes ≤ 2147483648 → starts ≡ line_starts bytes
    → AreLinesOf starts bytes
indexes_from bytes starts utf8 size looks_made = record { starts = looks_made ∙ starts_of_text bytes utf8; size = size }

pub starts_from : (bytes starts : List ℕ) → starts ≡ line_starts bytes → AreStarts starts
starts_from bytes starts looks_made = subst AreStarts (sym looks_made) (line_starts_are bytes)

-- `starts` after the first start was put in, and then the line ends; `read` are the bytes as they were lent
pub made_whole : (bytes read before first starts : List ℕ) → read ≡ bytes → before ≡ [] → first ≡ before ++ 0 ∷ []
    → starts ≡ first ++ starts_between read 0 (length read) → starts ≡ line_starts bytes
made_whole bytes read before first starts same empty pushed found = grind (arith, common_steps)

pub indexes_count : (bytes lines : List ℕ) → AreLinesOf lines bytes → length lines ≡ line_ends (chars bytes) + 1
indexes_count bytes lines indexes = grind (arith, common_steps, length-map, length-line_starts)

-- The start with a line's number is the place of that line's start.
pub indexes_start : (bytes lines : List ℕ) (line : ℕ) → AreLinesOf lines bytes → line ≤ line_ends (chars bytes)
    → slice_index lines line ≡ place_of (chars bytes) (line_start (chars bytes) line)
indexes_start bytes lines line indexes there = grind (arith, common_steps, get_or-map, length-line_starts, start_at)

-- The line of an index below the number of starts is one of the text's.
pub indexes_line : (bytes lines : List ℕ) (line : ℕ) → AreLinesOf lines bytes → line < length lines
    → line ≤ line_ends (chars bytes)
indexes_line bytes lines line indexes h = omega (arith, indexes_count bytes lines indexes)

-- The content of the last line ends where the text does.
pub indexes_last : (bytes lines : List ℕ) (line : ℕ) → IsUtf8 bytes → AreLinesOf lines bytes → line + 1 ≡ length lines
    → length bytes ≡ place_of (chars bytes) (line_stop (chars bytes) line)
indexes_last bytes lines line utf8 indexes last =
    let text = chars bytes in
    let same : line ≡ line_ends text = omega (arith, indexes_count bytes lines indexes) in
    ap length (sym (encodes-chars bytes utf8))
    ∙ (sym (place_end text) ∙ ap (place_of text) (sym (last_stop text) ∙ ap (line_stop text) (sym same)))

-- What the start of the next line tells.
pub record IsNext (bytes : List ℕ) (line next : ℕ) : Type 0 where
  pub some : 0 < next
  pub within : next ≤ length bytes
  pub stop : cond (splits_crlf bytes (next - 1)) (next - 2) (next - 1)
      ≡ place_of (chars bytes) (line_stop (chars bytes) line)

pub indexes_next : (bytes lines : List ℕ) (line : ℕ) → IsUtf8 bytes → AreLinesOf lines bytes → line + 1 < length lines
    → IsNext bytes line (slice_index lines (line + 1))
indexes_next bytes lines line utf8 indexes h =
    let text = chars bytes in
    let same : encode_utf8_all text ≡ bytes = encodes-chars bytes utf8 in
    let there : suc line ≤ line_ends text = omega (arith, indexes_count bytes lines indexes) in
    let ends : line_ends bytes ≡ line_ends text = ap line_ends (sym same) ∙ same_line_ends text in
    let at : suc line ≡ line + 1 = omega arith in
    let next : slice_index lines (line + 1) ≡ line_start bytes (suc line) =
    ap (slice_index lines) (sym at) ∙ (indexes_start bytes lines (suc line) indexes there
    ∙ (same_start text (suc line) there ∙ ap (λ bs. line_start bs (suc line)) same)) in
    let is_next : IsNextStart bytes line (slice_index lines (line + 1)) =
    subst (IsNextStart bytes line) (sym next) (next_start bytes line (omega arith)) in
    let stop : place_of text (line_stop text line) ≡ line_stop bytes line =
    same_stop text line (omega arith) ∙ ap (λ bs. line_stop bs line) same in
    let n = slice_index lines (line + 1) in
    let minus : n - 1 - 1 ≡ n - 2 = omega arith in
    record {
      some = is_next.some;
      within = is_next.within;
      stop = grind (arith, common_steps, stop_is, (splits_crlf bytes (n - 1)), is_next.some);
    }
