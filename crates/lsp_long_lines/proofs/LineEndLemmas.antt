-- The end of a line's content, and what is over the limit in the lines before a line.
use Rattle.std.proofs.Common.{◌≡◌, ℕ, zero, suc, ◌+◌, ◌≤◌, ◌<◌, Bool, true, false, cond, List, [], ◌∷◌, ◌++◌, length, map, filter, Some, ap, ◌∙◌, arith, le-ltb, lt-ltb, nat_lt, sym, subst}
use Rattle.std.specs.Str.{chars, IsUtf8}
use Rattle.std.proofs.lemmas.List.{append-nil, map-append}
use Rattle.std.proofs.lemmas.List.Elements.{filter-append}
use Rattle.std.proofs.lemmas.Str.{encodes-chars}
use Rattle.lsp_text.specs.declared.encoding.Encoding.{Encoding}
use Rattle.lsp_text.specs.declared.position.Position.{Position}
use Rattle.lsp_text.specs.declared.position.Range.{Range}
use Rattle.lsp_text.specs.TextLines.{line_at, line_ends, line_start, line_stop, numbers_from}
use Rattle.lsp_text.specs.Units.{units_in, units_between}
use Rattle.lsp_text.specs.Positions.{denoted}
use Rattle.lsp_text.proofs.TextLines.LineLemmas.{in_content_line, line_has_stop}
use Rattle.lsp_text.proofs.Positions.PastLemmas.{past_line}
use Rattle.lsp_text.proofs.Counting.TotalLemmas.{units_total}
use Rattle.lsp_long_lines.specs.LongLines.{is_long, line_end, over_limit}
use Rattle.std.proofs.lemmas.Grind.{common_steps}

-- The greatest character denotes the end of each line.
pub denoted-past_end : (encoding : Encoding) (bytes : List ℕ) (line : ℕ) → IsUtf8 bytes → length bytes ≤ 2147483648
    → line ≤ line_ends (chars bytes) →
    denoted (units_in encoding) (chars bytes) (record { line = line; character = 4294967295 })
    ≡ Some (line_stop (chars bytes) line)
denoted-past_end encoding bytes line utf8 size there =
    let text = chars bytes in
    past_line (units_in encoding) text (record { line = line; character = 4294967295 }) there
    (omega (
      arith,
      units_total encoding text (line_start text line) (line_stop text line),
      ap length (encodes-chars bytes utf8),
      size,
    ))

-- The character of a line's end: the units of its content.
pub line_end-character : (units : ℕ → ℕ) (text : List ℕ) (line : ℕ) → line ≤ line_ends text →
    (line_end units text line).character ≡ units_between units text (line_start text line) (line_stop text line)
line_end-character units text line there =
    let here : line_at text (line_stop text line) ≡ line =
    in_content_line text line (line_stop text line) (line_has_stop text line there).passes in
    ap (λ (m : ℕ). units_between units text (line_start text m) (line_stop text line)) here

pub is_long-false : (units : ℕ → ℕ) (text : List ℕ) (line : ℕ) (stop : Position) → line ≤ line_ends text
    → stop ≡ line_end units text line → stop.character ≤ 100 →
    false ≡ is_long units text line
is_long-false units text line stop there end few = grind (arith, common_steps, nat_lt, le-ltb, line_end-character)

pub is_long-true : (units : ℕ → ℕ) (text : List ℕ) (line : ℕ) (stop : Position) → line ≤ line_ends text
    → stop ≡ line_end units text line → 100 < stop.character →
    true ≡ is_long units text line
is_long-true units text line stop there end many = grind (arith, common_steps, nat_lt, lt-ltb, line_end-character)

-- One number more.
numbers_from-suc : (first count : ℕ) → numbers_from first (suc count) ≡ numbers_from first count ++ (first + count) ∷ []
numbers_from-suc first zero = let e : first ≡ first + 0 = omega arith in ap (λ (k : ℕ). k ∷ []) e
numbers_from-suc first (suc count) =
    let next : suc first + count ≡ first + suc count = omega arith in
    ap (λ (ks : List ℕ). first ∷ ks) (numbers_from-suc (suc first) count
    ∙ ap (λ (k : ℕ). numbers_from (suc first) count ++ k ∷ []) next)

numbers_from-more : (count : ℕ) → numbers_from 0 (count + 1) ≡ numbers_from 0 count ++ count ∷ []
numbers_from-more count =
    let plain : 0 + count ≡ count = omega arith in
    let next : count + 1 ≡ suc count = omega arith in
    ap (numbers_from 0) next ∙ numbers_from-suc 0 count ∙ ap (λ (k : ℕ). numbers_from 0 count ++ k ∷ []) plain

-- What is over the limit in the long lines among the first ones.
abbrev pub ranges_before : (ℕ → ℕ) → List ℕ → ℕ → List Range
ranges_before units text count = map (over_limit units text) (filter (is_long units text) (numbers_from 0 count))

-- One line more, which is the last of these if it is long.
ranges_before-more : (units : ℕ → ℕ) (text : List ℕ) (line : ℕ) (long : Bool) → long ≡ is_long units text line →
    ranges_before units text (line + 1) ≡ ranges_before units text line ++ map (over_limit units text)
    (cond long (line ∷ []) [])
ranges_before-more units text line long is =
    grind (arith, common_steps, filter, numbers_from-more, filter-append, map-append)

pub ranges-long : (units : ℕ → ℕ) (bytes shown : List ℕ) (line : ℕ) (ranges : List Range) (range : Range)
    → shown ≡ bytes → true ≡ is_long units (chars shown) line →
    range ≡ over_limit units (chars shown) line → ranges ≡ ranges_before units (chars bytes) line
    → ranges ++ range ∷ [] ≡ ranges_before units (chars bytes) (line + 1)
ranges-long units bytes shown line ranges range same long over before =
    grind (arith, common_steps, (ranges_before-more units (chars bytes) line true))

pub ranges-short : (units : ℕ → ℕ) (bytes shown : List ℕ) (line : ℕ) (ranges : List Range) → shown ≡ bytes
    → false ≡ is_long units (chars shown) line →
    ranges ≡ ranges_before units (chars bytes) line → ranges ≡ ranges_before units (chars bytes) (line + 1)
ranges-short units bytes shown line ranges same short before =
    grind (arith, common_steps, append-nil, (ranges_before-more units (chars bytes) line false))
