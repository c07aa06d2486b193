-- The content of a line, found by the positions at its start and after all of it.
use Rattle.lsp_buffer.proofs.Prelude.{chars, encodes-chars, Utf8, Position, denoted, exact_position, place_of, line_at, line_ends, line_start, line_stop, units_in, units_between, stop_behind, stop_within, line_has_start, in_content_line, in_content_whole, place_boundary, place_rises, units_total, exact_denotes, common_steps}
use Rattle.std.proofs.Common.{◌≡◌, ◌≤◌, ◌-◌, ℕ, List, length, take, drop, ap, ◌∙◌, sym, arith, Some, Result, Ok, Err, IsUtf8}
use Rattle.std.specs.List.{sum_by}
use Rattle.std.specs.Result.{result_ok, result_unwrap_or}
use Rattle.std.specs.declared.ops.Range.{Range}
use Rattle.lsp_text.proofs.Positions.PastLemmas.{past_line}
use Rattle.lsp_buffer.specs.Contents.{IsContentOf}
use Rattle.lsp_buffer.proofs.Queries.FoundLemmas.{units_some}
use Rattle.std.proofs.lemmas.Grind.{common_steps}

no_units : (units : ℕ → ℕ) (text : List ℕ) (k : ℕ) → units_between units text k k ≡ 0
no_units units text k = ap (λ n. sum_by units (take n (drop k text))) (let e : k - k ≡ 0 = omega arith in e)

-- The first character of a line denotes its start.
pub first_denotes : (text : List ℕ) (line : ℕ) → line ≤ line_ends text
    → denoted (units_in Utf8) text (record { line = line; character = 0 }) ≡ Some (line_start text line)
first_denotes text line there =
    let start = line_has_start text line there in
    let here = in_content_line text line (line_start text line) start.passes in
    let none : units_between (units_in Utf8) text (line_start text (line_at text (line_start text line)))
    (line_start text line) ≡ 0 =
    grind (arith, common_steps, units_between, units_in, line_start, no_units) in
    let same : ◌≡◌ {A = Position} (exact_position (units_in Utf8) text (line_start text line))
    (record { line = line; character = 0 }) =
    λ i. record { line = here i; character = none i } in
    ap (denoted (units_in Utf8) text) (sym same) ∙
    exact_denotes (units_in Utf8) (units_some Utf8) text (line_start text line) (omega (arith, start.in_row))
    (in_content_whole text line (line_start text line) start.passes)

-- No line has so many bytes that its end isn't denoted by the greatest character.
pub last_denotes : (bytes : List ℕ) (line : ℕ) → IsUtf8 bytes → length bytes ≤ 2147483648
    → line ≤ line_ends (chars bytes) →
    denoted (units_in Utf8) (chars bytes) (record { line = line; character = 4294967295 })
    ≡ Some (line_stop (chars bytes) line)
last_denotes bytes line utf8 size there = grind (arith, common_steps, past_line, units_total, encodes-chars)

-- A result that is there is taken, and not the default.
pub value_of : {E : Type 0} (found : Result ℕ E) (default value : ℕ) → result_ok found ≡ Some value
    → result_unwrap_or found default ≡ value
value_of (Ok x) default value is = cc
value_of (Err e) default value is = cc

-- The content of a line is a part of the text.
pub content_is : (text : List ℕ) (line : ℕ) (range : Range ℕ) → IsUtf8 text → line ≤ line_ends (chars text)
    → range.start ≡ place_of (chars text) (line_start (chars text) line) →
    range.end ≡ place_of (chars text) (line_stop (chars text) line) → IsContentOf text line range
content_is text line range utf8 there start_is end_is =
    let start = line_start (chars text) line in
    let stop = line_stop (chars text) line in
    let order : start ≤ stop = stop_behind (chars text) line there in
    let within : stop ≤ length (chars text) = stop_within (chars text) line there in
    record {
      start = start_is;
      end = end_is;
      order = omega (arith, place_rises (chars text) start stop order within, start_is, end_is);
      at_start = rw start_is (place_boundary text start utf8 (omega (arith, order, within)));
      at_end = rw end_is (place_boundary text stop utf8 within);
    }
