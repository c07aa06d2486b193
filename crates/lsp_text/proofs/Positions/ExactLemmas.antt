-- The exact position of a place, by the line starts and the bytes of its line.
use Rattle.lsp_text.proofs.Prelude.{◌≡◌, ℕ, zero, suc, ◌+◌, ◌≤◌, ◌<◌, List, [], ◌∷◌, length, slice_index, sum_by, Some, option_map, refl, sym, ap, ◌∙◌, arith, ⊎_elim, subst, len_utf8, chars, IsUtf8, cases_lt, length-map, get_or-map, length-take, length-drop, sum_by-cons, encodes-chars, length-le-encodes, Position, place_of, line_at, line_ends, line_start, line_starts, start_places, AreLinesOf, IsPlace, AreStarts, IsLineOf, units_between, exact_position, denoted, common_steps}
use Rattle.lsp_text.proofs.TextLines.LineLemmas.{line_rises, line_step, reached, in_content_line, line_has_start}
use Rattle.lsp_text.proofs.Positions.PlaceLemmas.{place_order, place_rises, place_within}
use Rattle.lsp_text.specs.laws.Positions.{FoundLaw}
use Rattle.lsp_text.proofs.TextLines.StartLemmas.{starts_of_text}
use Rattle.lsp_text.proofs.TextLines.StartRowLemmas.{length-line_starts, start_at}
use Rattle.lsp_text.proofs.TextLines.IndexesLemmas.{indexes_line, indexes_start, indexes_count, starts_from}
use Rattle.lsp_text.proofs.Positions.PositionLemmas.{exact_denotes}
use Rattle.lsp_text.proofs.Counting.LeadLemmas.{utf8_units_of_text}
use Rattle.lsp_text.proofs.Positions.ResolveLemmas.{part, part_utf8, chars_part}
use Rattle.std.proofs.lemmas.Grind.{common_steps}

pub indexes_are : (bytes lines : List ℕ) → IsUtf8 bytes → AreLinesOf lines bytes → AreStarts lines
indexes_are bytes lines utf8 indexes = starts_from bytes lines (indexes.starts ∙ sym (starts_of_text bytes utf8))

-- There are no more lines than characters and one.
pub line_low : (text : List ℕ) (k : ℕ) → line_at text k ≤ k
line_low text zero = omega arith
line_low text (suc k) = omega (arith, (line_step text k).1, line_low text k)

pub indexes_few : (bytes lines : List ℕ) → IsUtf8 bytes → AreLinesOf lines bytes → length lines ≤ 2147483649
indexes_few bytes lines utf8 indexes =
    let text = chars bytes in
    omega (
      arith,
      indexes_count bytes lines indexes,
      line_low text (length text),
      length-le-encodes text,
      ap length (encodes-chars bytes utf8),
      indexes.size,
    )

-- A line starts at or before each of its indexes.
pub start_before : (text : List ℕ) (k : ℕ) → k ≤ length text → line_start text (line_at text k) ≤ k
start_before text k within = grind (arith, common_steps, reached, line_has_start, line_rises)

-- The kept start of a line is the place of the line's start.
pub start_place : (text : List ℕ) (line : ℕ) → line ≤ line_ends text → slice_index (start_places text) line
    ≡ place_of text (line_start text line)
start_place text line there = grind (arith, common_steps, get_or-map, length-line_starts, start_at)

-- The line of a text whose start is the last at or before the place of an index is the index's line.
pub found_law : FoundLaw
found_law text k line within found =
    let lines = start_places text in
    let count : length lines ≡ line_ends text + 1 =
    omega (arith, length-map (line_starts text) (place_of text), length-line_starts text) in
    let inside = found.within in
    let there : line ≤ line_ends text = omega (arith, count) in
    let start = line_has_start text line there in
    let low : line_start text line ≤ k =
    grind (arith, common_steps, place_order, (line_start text line), (start_place text line there)) in
    let rises : line_at text (line_start text line) ≤ line_at text k = line_rises text (line_start text line) k low in
    let here = in_content_line text line (line_start text line) start.passes in
    ⊎_elim
    (λ (h : line < line_at text k).
    let m = line_at text k in
    let up : m ≤ line_ends text = line_rises text k (length text) within in
    let before : line_start text m ≤ k = start_before text k within in
    let above : place_of text k < slice_index lines m = found.greatest m h (omega (arith, count)) in
    absurd (omega (arith, start_place text m up, place_rises text (line_start text m) k before within)))
    (λ (h : line_at text k ≤ line). omega arith)
    (cases_lt line (line_at text k))

-- The same over lines that are kept.
pub line_found : (bytes lines : List ℕ) (place line k : ℕ) → AreLinesOf lines bytes → IsLineOf lines place line
    → k ≤ length (chars bytes) → place_of (chars bytes) k ≡ place → line ≡ line_at (chars bytes) k
line_found bytes lines place line k indexes found within at =
    found_law (chars bytes) k line within
    (subst (λ xs. IsLineOf xs (place_of (chars bytes) k) line) indexes.starts
    (subst (λ p. IsLineOf lines p line) (sym at) found))

-- A line's part up to the place of one of its indexes.
pub record IsFront (bytes : List ℕ) (start place k : ℕ) : Type 0 where
  pub within : k ≤ length (chars bytes)
  pub place_is : place_of (chars bytes) k ≡ place
  pub start_is : start ≡ place_of (chars bytes) (line_start (chars bytes) (line_at (chars bytes) k))

pub front_from : (bytes lines : List ℕ) (place line k : ℕ) → AreLinesOf lines bytes → IsLineOf lines place line
    → k ≤ length (chars bytes) → place_of (chars bytes) k ≡ place → IsFront bytes (slice_index lines line) place k
front_from bytes lines place line k indexes found within at =
    grind (arith, common_steps, indexes_start, indexes_line, line_found)

pub front_within : (bytes : List ℕ) (start place k : ℕ) → IsUtf8 bytes → IsFront bytes start place k
    → place ≤ length bytes
front_within bytes start place k utf8 front =
    omega (arith, front.place_is, place_within (chars bytes) k front.within, ap length (encodes-chars bytes utf8))

pub front_utf8 : (bytes : List ℕ) (start place k : ℕ) → IsUtf8 bytes → IsFront bytes start place k
    → IsUtf8 (part bytes start place)
front_utf8 bytes start place k utf8 front =
    rw (front.start_is, ← front.place_is) (part_utf8 bytes (line_start (chars bytes) (line_at (chars bytes) k)) k utf8
    (start_before (chars bytes) k front.within) front.within)

pub front_units : (units : ℕ → ℕ) (bytes : List ℕ) (start place k : ℕ) → IsUtf8 bytes → IsFront bytes start place k →
    sum_by units (chars (part bytes start place)) ≡ units_between units (chars bytes)
    (line_start (chars bytes) (line_at (chars bytes) k)) k
front_units units bytes start place k utf8 front = grind (arith, common_steps, sum_by, chars_part, start_before)

-- A part has no more units than bytes.
units_few : (units : ℕ → ℕ) → ((c : ℕ) → units c ≤ len_utf8 c) → (cs : List ℕ) → sum_by units cs ≤ sum_by len_utf8 cs
units_few units few [] = omega arith
units_few units few (c ∷ cs) = grind (arith, common_steps, sum_by-cons, (units_few units few cs))

pub front_few : (units : ℕ → ℕ) → ((c : ℕ) → units c ≤ len_utf8 c) → (bytes : List ℕ) → IsUtf8 bytes
    → sum_by units (chars bytes) ≤ length bytes
front_few units few bytes utf8 = omega (arith, units_few units few (chars bytes), utf8_units_of_text bytes utf8)

pub part_short : (bytes : List ℕ) (start place : ℕ) → place ≤ length bytes → length (part bytes start place)
    ≤ length bytes
part_short bytes start place within = grind (arith, common_steps, length-take, length-drop)

-- The same, where the search went over a copy of the starts.
pub front_found : (bytes lines shown : List ℕ) (place line k : ℕ) → AreLinesOf lines bytes → shown ≡ lines
    → IsLineOf shown place line → k ≤ length (chars bytes) → place_of (chars bytes) k ≡ place
    → IsFront bytes (slice_index lines line) place k
front_found bytes lines shown place line k indexes same found within at =
    front_from bytes lines place line k indexes (subst (λ xs. IsLineOf xs place line) same found) within at

-- The pair of an index's line and its units from the line's start is its exact position.
pub exact_is : (units : ℕ → ℕ) (bytes lines shown : List ℕ) (place line count k : ℕ) → IsUtf8 bytes
    → AreLinesOf lines bytes → shown ≡ lines → IsLineOf shown place line →
    count ≡ sum_by units (chars (part bytes (slice_index lines line) place)) → k ≤ length (chars bytes)
    → place_of (chars bytes) k ≡ place →
    ◌≡◌ {A = Position} (record { line = line; character = count }) (exact_position units (chars bytes) k)
exact_is units bytes lines shown place line count k utf8 indexes same found counted within at =
    let front = front_found bytes lines shown place line k indexes same found within at in
    let line_is = line_found bytes lines place line k indexes (subst (λ xs. IsLineOf xs place line) same found) within at in
    let count_is = counted ∙ front_units units bytes (slice_index lines line) place k utf8 front in
    rw (line_is, count_is) refl

-- The exact position of a place denotes it.
pub exact_resolves : (units : ℕ → ℕ) → ((c : ℕ) → 1 ≤ units c) → (text : List ℕ) (place : ℕ) (p : Position)
    → IsPlace text place → ((k : ℕ) → k ≤ length text → place_of text k ≡ place → p ≡ exact_position units text k)
    → option_map (place_of text) (denoted units text p) ≡ Some place
exact_resolves units some text place p at exact = grind (arith, common_steps, exact_denotes)
