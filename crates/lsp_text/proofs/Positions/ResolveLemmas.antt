-- The place that a position denotes, by the bytes of its line.
use Rattle.lsp_text.proofs.Prelude.{◌≡◌, ℕ, ◌+◌, ◌-◌, ◌≤◌, ◌<◌, List, [], ◌∷◌, ◌++◌, length, take, drop, Option, Some, None, option_map, refl, sym, ap, ◌∙◌, arith, lt-ltb, encode_utf8_all, chars, IsCharBoundary, IsUtf8, encode, take-append-drop, append-nil, length-take, length-drop, encodes-chars, chars_from_encodes, IsUtf8-between, length-encode, Position, place_of, line_ends, line_start, line_stop, denoted, IsPlace, line_place, common_steps}
use Rattle.lsp_text.proofs.Positions.PositionLemmas.{denoted_whole}
use Rattle.lsp_text.proofs.Positions.BoundaryLemmas.{boundary_from}
use Rattle.lsp_text.proofs.Positions.InLineLemmas.{index_in_line, denoted_in_line}
use Rattle.lsp_text.proofs.Positions.PlaceLemmas.{place_end, place_within, place_add, part_place, place_boundary, place_rises, take_place}
use Rattle.lsp_text.proofs.TextLines.ContentLemmas.{stop_behind, stop_within}
use Rattle.std.proofs.lemmas.Grind.{common_steps}

-- the bytes from one place of a text to another
abbrev pub part : List ℕ → ℕ → ℕ → List ℕ
part bytes from to = take (to - from) (drop from bytes)

pub part_utf8 : (bytes : List ℕ) (j k : ℕ) → IsUtf8 bytes → j ≤ k → k ≤ length (chars bytes)
    → IsUtf8 (part bytes (place_of (chars bytes) j) (place_of (chars bytes) k))
part_utf8 bytes j k utf8 order within =
    IsUtf8-between bytes (place_of (chars bytes) j) (place_of (chars bytes) k) utf8
    (omega (arith, place_rises (chars bytes) j k order within))
    (place_boundary bytes j utf8 (omega arith)) (place_boundary bytes k utf8 within)

pub chars_part : (bytes : List ℕ) (j k : ℕ) → IsUtf8 bytes → j ≤ k → k ≤ length (chars bytes)
    → chars (part bytes (place_of (chars bytes) j) (place_of (chars bytes) k)) ≡ take (k - j) (drop j (chars bytes))
chars_part bytes j k utf8 order within =
    grind (arith, common_steps, part_place, encodes-chars, chars_from_encodes, part_utf8)

-- The place in a line is that of its index, whatever stands behind the line.
line_place_is : (units : ℕ → ℕ) (cs rest_after : List ℕ) (c : ℕ) → line_place units cs c
    ≡ option_map (place_of (cs ++ rest_after)) (index_in_line units cs c)
line_place_is units [] rest_after c = refl
line_place_is units (x ∷ cs) rest_after c =
    grind (arith, common_steps, encode, length-encode, (line_place_is units cs rest_after (c - units x)))

shifted : (text : List ℕ) (start : ℕ) (o : Option ℕ) → option_map (place_of text) (option_map (λ n. start + n) o)
    ≡ option_map (λ n. place_of text start + n) (option_map (place_of (drop start text)) o)
shifted text start None = refl
shifted text start (Some n) = ap Some (place_add text start n)

-- A position of a line denotes the place that the line's bytes alone give.
pub resolved : (units : ℕ → ℕ) → ((c : ℕ) → 1 ≤ units c) → (bytes : List ℕ) (p : Position) → IsUtf8 bytes
    → p.line ≤ line_ends (chars bytes) → option_map (place_of (chars bytes)) (denoted units (chars bytes) p) ≡
    option_map (λ n. place_of (chars bytes) (line_start (chars bytes) p.line) + n) (line_place units
    (chars (part bytes (place_of (chars bytes) (line_start (chars bytes) p.line))
    (place_of (chars bytes) (line_stop (chars bytes) p.line)))) p.character)
resolved units some bytes p utf8 there =
    let text = chars bytes in
    let start = line_start text p.line in
    let stop = line_stop text p.line in
    let content = take (stop - start) (drop start text) in
    let rest_after = drop (stop - start) (drop start text) in
    let whole : content ++ rest_after ≡ drop start text = take-append-drop (stop - start) (drop start text) in
    let found = index_in_line units content p.character in
    ap (option_map (place_of text)) (denoted_in_line units some text p there) ∙
    (shifted text start found ∙
    (grind (arith, common_steps, line_place_is, chars_part, stop_behind, stop_within)))

-- A position past the last line denotes the end.
pub resolved_past : (units : ℕ → ℕ) (bytes : List ℕ) (p : Position) → IsUtf8 bytes → line_ends (chars bytes) < p.line
    → option_map (place_of (chars bytes)) (denoted units (chars bytes) p) ≡ Some (length bytes)
resolved_past units bytes p utf8 past = grind (arith, common_steps, lt-ltb, place_end, encodes-chars)

-- The bounds of a line's content, told by their places.
pub record IsContent (bytes : List ℕ) (line start stop : ℕ) : Type 0 where
  pub there : line ≤ line_ends (chars bytes)
  pub start_is : start ≡ place_of (chars bytes) (line_start (chars bytes) line)
  pub stop_is : stop ≡ place_of (chars bytes) (line_stop (chars bytes) line)

pub content_order : (bytes : List ℕ) (line start stop : ℕ) → IsContent bytes line start stop → start ≤ stop
content_order bytes line start stop content =
    let text = chars bytes in
    omega (
      arith,
      content.start_is,
      content.stop_is,
      place_rises text (line_start text line) (line_stop text line) (stop_behind text line content.there)
          (stop_within text line content.there),
    )

pub content_within : (bytes : List ℕ) (line start stop : ℕ) → IsUtf8 bytes → IsContent bytes line start stop
    → stop ≤ length bytes
content_within bytes line start stop utf8 content =
    grind (arith, common_steps, place_within, stop_within, encodes-chars)

pub content_utf8 : (bytes : List ℕ) (line start stop : ℕ) → IsUtf8 bytes → IsContent bytes line start stop
    → IsUtf8 (part bytes start stop)
content_utf8 bytes line start stop utf8 content =
    let text = chars bytes in
    rw (
      content.start_is,
      content.stop_is,
    ) (part_utf8 bytes (line_start text line) (line_stop text line) utf8 (stop_behind text line content.there)
    (stop_within text line content.there))

pub resolved_at : (units : ℕ → ℕ) → ((c : ℕ) → 1 ≤ units c) → (bytes : List ℕ) (p : Position) (start stop : ℕ)
    (found : Option ℕ) → IsUtf8 bytes → IsContent bytes p.line start stop →
    found ≡ line_place units (chars (part bytes start stop)) p.character → option_map (λ n. start + n) found
    ≡ option_map (place_of (chars bytes)) (denoted units (chars bytes) p)
resolved_at units some bytes p start stop found utf8 content is = grind (arith, common_steps, resolved)

-- A place in a line's content lies in it.
place_most : (cs : List ℕ) (k : ℕ) → place_of cs k ≤ length (encode_utf8_all cs)
place_most cs k = omega (arith, ap length (take_place cs k), length-take (place_of cs k) (encode_utf8_all cs))

of_some : (cs : List ℕ) (n : ℕ) (o : Option ℕ) → Some n ≡ option_map (place_of cs) o → n ≤ length (encode_utf8_all cs)
of_some cs n None is = absurd (cc)
of_some cs n (Some k) is = let e : n ≡ place_of cs k = cc in omega (arith, place_most cs k)

place_in_line : (units : ℕ → ℕ) (cs : List ℕ) (c n : ℕ) → Some n ≡ line_place units cs c
    → n ≤ length (encode_utf8_all cs)
place_in_line units cs c n is =
    let whole : cs ++ [] ≡ cs = append-nil cs in
    omega (
      arith,
      of_some (cs ++ []) n (index_in_line units cs c) (is ∙ line_place_is units cs [] c),
      ap (λ ds. length (encode_utf8_all ds)) whole,
    )

pub place_in_content : (units : ℕ → ℕ) (bytes : List ℕ) (line start stop c n : ℕ) → IsUtf8 bytes
    → IsContent bytes line start stop → Some n ≡ line_place units (chars (part bytes start stop)) c
    → start + n ≤ length bytes
place_in_content units bytes line start stop c n utf8 content is =
    omega (
      arith,
      place_in_line units (chars (part bytes start stop)) c n is,
      ap length (encodes-chars (part bytes start stop) (content_utf8 bytes line start stop utf8 content)),
      length-take (stop - start) (drop start bytes),
      length-drop start bytes,
      content_order bytes line start stop content,
      content_within bytes line start stop utf8 content,
    )

-- What a position denotes is a place at which a position may stand.
pub denoted_place : (units : ℕ → ℕ) (text : List ℕ) (p : Position) (place : ℕ) → Some place ≡ option_map (place_of text)
    (denoted units text p) → IsPlace text place
denoted_place units text p place is = by_index (denoted units text p) refl is
  where
    by_index : (o : Option ℕ) → denoted units text p ≡ o → Some place ≡ option_map (place_of text) o
        → IsPlace text place
    by_index None e is = absurd (cc)
    by_index (Some k) e is =
        let whole = denoted_whole units text p k e in
        let same : place ≡ place_of text k = cc in
        (k, whole.within, whole.whole, sym same)

pub denoted_boundary : (units : ℕ → ℕ) (bytes : List ℕ) (p : Position) (place : ℕ) → IsUtf8 bytes → Some place
    ≡ option_map (place_of (chars bytes)) (denoted units (chars bytes) p) → IsCharBoundary bytes place
denoted_boundary units bytes p place utf8 is =
    (boundary_from bytes place utf8 (denoted_place units (chars bytes) p place is)).0
