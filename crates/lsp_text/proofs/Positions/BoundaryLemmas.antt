-- A place splits a CRLF of the bytes exactly if its index splits one of the characters.
use Rattle.lsp_text.proofs.Prelude.{◌≡◌, ℕ, zero, suc, ◌+◌, ◌-◌, ◌≤◌, ◌<◌, Bool, true, false, ◌&&◌, ◌==◌, List, [], ◌∷◌, ◌++◌, length, drop, get_or, slice_index, refl, sym, ap, ◌∙◌, arith, encode_utf8_all, IsTrue, ◌↔◌, not, len_utf8, chars, IsUtf8, IsCharBoundary, encode, drop-cons, get_or-drop, cases_lt, not-true, not_from_false, false≢true, nat_tests, encode_ascii, length-encode, len_utf8_bounds, encodes-chars, place_of, splits_crlf, IsPlace, common_steps}
use Rattle.lsp_text.proofs.Positions.PlaceLemmas.{place_more, drop_place, place_boundary, index_at}
use Rattle.lsp_text.proofs.TextLines.StartLemmas.{AllHigh, encode_high, first_line_feed}
use Rattle.std.proofs.lemmas.Grind.{common_steps}

high_at : (bytes rest : List ℕ) (k : ℕ) → AllHigh bytes → k < length bytes → 128 ≤ get_or (bytes ++ rest) k 0
high_at [] rest k all h = absurd (omega arith)
high_at (b ∷ bytes) rest zero all h = all.0
high_at (b ∷ bytes) rest (suc k) all h = high_at bytes rest k all.1 (omega arith)

not_return : (a b : ℕ) → 128 ≤ a → 128 ≤ b → (a == 13) ≡ (b == 13)
not_return a b h g = grind (arith, nat_tests)

-- the last byte of a character is a carriage return exactly if the character is
last_return : (x : ℕ) (rest : List ℕ) → (get_or (encode x ++ rest) (len_utf8 x - 1) 0 == 13) ≡ (x == 13)
last_return x rest =
    grind (
      arith,
      common_steps,
      x,
      length-encode,
      encode_ascii,
      not_return,
      encode,
      high_at,
      encode_high,
      len_utf8_bounds,
      cases_lt,
    )

-- the byte at a place
byte_at : (text : List ℕ) (k i : ℕ) → get_or (encode_utf8_all text) (place_of text k + i) 0
    ≡ get_or (encode_utf8_all (drop k text)) i 0
byte_at text k i = sym (get_or-drop (place_of text k) (encode_utf8_all text) i 0)
    ∙ ap (λ bs. get_or bs i 0) (drop_place text k)

pub same_split : (text : List ℕ) (k : ℕ) → k ≤ length text → splits_crlf (encode_utf8_all text) (place_of text k)
    ≡ splits_crlf text k
same_split text zero within = refl
same_split text (suc j) within = by_place (place_of text (suc j)) refl
  where
    x : ℕ
    x = get_or text j 0

    bytes : List ℕ
    bytes = encode_utf8_all text

    more : place_of text (suc j) ≡ place_of text j + len_utf8 x
    more = place_more text j within

    last : (get_or bytes (place_of text j + (len_utf8 x - 1)) 0 == 13) ≡ (x == 13)
    last = grind (arith, common_steps, byte_at, x, drop-cons, last_return)

    next : (get_or bytes (place_of text (suc j)) 0 == 10) ≡ (get_or text (suc j) 0 == 10)
    next =
        let at : place_of text (suc j) ≡ place_of text (suc j) + 0 = omega arith in
        let here = get_or-drop (suc j) text 0 0 ∙ ap (λ i. get_or text i 0) (omega arith) in
        ap (λ p. get_or bytes p 0 == 10) at ∙ (ap (λ b. b == 10) (byte_at text (suc j) 0)
        ∙ (first_line_feed (drop (suc j) text) ∙ ap (λ b. b == 10) here))

    by_place : (place : ℕ) → place_of text (suc j) ≡ place → splits_crlf bytes (place_of text (suc j))
        ≡ splits_crlf text (suc j)
    by_place zero e = absurd (omega (arith, more, (len_utf8_bounds x).0))
    by_place (suc p) e =
        let before : p ≡ place_of text j + (len_utf8 x - 1) = omega (arith, more, (len_utf8_bounds x).0) in
        rw e (ap (λ b. b && (slice_index bytes (suc p) == 10)) (ap (λ i. get_or bytes i 0 == 13) before ∙ last)
        ∙ ap (λ b. (x == 13) && b) (ap (λ i. get_or bytes i 0 == 10) (sym e) ∙ next))

pub same_split_text : (bytes : List ℕ) (k : ℕ) → IsUtf8 bytes → k ≤ length (chars bytes)
    → splits_crlf bytes (place_of (chars bytes) k) ≡ splits_crlf (chars bytes) k
same_split_text bytes k utf8 within =
    ap (λ bs. splits_crlf bs (place_of (chars bytes) k)) (sym (encodes-chars bytes utf8)) ∙ same_split (chars bytes) k
    within

-- A boundary of characters that splits no CRLF is a place at which a position may stand, and the other way round.
pub place_from : (bytes : List ℕ) (place : ℕ) → IsUtf8 bytes → IsCharBoundary bytes place → splits_crlf bytes place
    ≡ false → IsPlace (chars bytes) place
place_from bytes place utf8 boundary whole =
    grind (arith, common_steps, same_split_text, (index_at bytes place utf8 boundary), (splits_crlf bytes))

pub boundary_from : (bytes : List ℕ) (place : ℕ) → IsUtf8 bytes → IsPlace (chars bytes) place
    → IsCharBoundary bytes place × (splits_crlf bytes place ≡ false)
boundary_from bytes place utf8 at =
    rw (← at.3) (place_boundary bytes at.0 utf8 at.1, same_split_text bytes at.0 utf8 at.1 ∙ at.2)

-- The answer of a test of both.
pub tested_both : (bytes read : List ℕ) (place : ℕ) (inside : Bool) → IsUtf8 bytes → read ≡ bytes
    → IsCharBoundary bytes place → inside ≡ splits_crlf read place → IsTrue (not inside) ↔ IsPlace (chars bytes) place
tested_both bytes read place inside utf8 same boundary is =
    grind (arith, common_steps, bytes, place_from, not-true, not_from_false, boundary_from)

pub tested_none : (bytes : List ℕ) (place : ℕ) (boundary : Bool) → IsUtf8 bytes → boundary ≡ false
    → (IsTrue boundary ↔ IsCharBoundary bytes place) → IsTrue boundary ↔ IsPlace (chars bytes) place
tested_none bytes place boundary utf8 outside is =
    (λ (h : boundary ≡ true). absurd (false≢true (sym outside ∙ h)), λ at. is.1 (boundary_from bytes place utf8 at).0)
