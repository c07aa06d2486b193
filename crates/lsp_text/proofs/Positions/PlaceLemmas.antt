-- Indexes of a text and their places among its bytes.
use Rattle.lsp_text.proofs.Prelude.{◌≡◌, ℕ, zero, suc, ◌+◌, ◌-◌, ◌≤◌, ◌<◌, true, List, [], ◌∷◌, ◌++◌, length, take, drop, get_or, refl, sym, ap, ◌∙◌, arith, ⊎_elim, append-nil, encode_utf8_all, scalar, scalars, len_utf8, chars, IsUtf8, IsCharBoundary, take-suc, take-add, length-append, length-take-le, take-append-drop, take_at, drop_at, take_all, cases_lt, and_parts, and_from, encodes-append, length-encode, encodes-chars, chars-append, IsUtf8-take, IsCharBoundary-from_take, scalars-chars, place_of, common_steps}
use Rattle.std.proofs.lemmas.Grind.{common_steps}

pub place_end : (text : List ℕ) → place_of text (length text) ≡ length (encode_utf8_all text)
place_end text = ap (λ cs. length (encode_utf8_all cs)) (take_all (length text) text (omega arith))

-- One index on, the place is that of one character more.
pub place_more : (text : List ℕ) (k : ℕ) → k < length text → place_of text (suc k) ≡ place_of text k
    + len_utf8 (get_or text k 0)
place_more text k h = grind (arith, common_steps, take-suc, encodes-append, length-append, append-nil, length-encode)

pub place_rises : (text : List ℕ) (j k : ℕ) → j ≤ k → k ≤ length text → place_of text j + (k - j) ≤ place_of text k
place_rises text j zero order within = omega (arith, ap (place_of text) (let e : j ≡ 0 = omega arith in e))
place_rises text j (suc k) order within =
    ⊎_elim
    (λ (h : j < suc k). grind (arith, common_steps, place_more, (place_rises text j k (omega arith) (omega arith))))
    (λ (h : suc k ≤ j). omega (arith, ap (place_of text) (let e : j ≡ suc k = omega arith in e)))
    (cases_lt j (suc k))

-- An index with a place at most that of another is at most that other, and equal places are those of one index.
pub place_order : (text : List ℕ) (j k : ℕ) → j ≤ length text → place_of text j ≤ place_of text k → j ≤ k
place_order text j k within low =
    ⊎_elim
    (λ (h : k < j). absurd (omega (arith, place_rises text k j (omega arith) within)))
    (λ (h : j ≤ k). h)
    (cases_lt k j)

pub place_one : (text : List ℕ) (j k : ℕ) → j ≤ length text → k ≤ length text → place_of text j ≡ place_of text k
    → j ≡ k
place_one text j k low high same =
    omega (arith, place_order text j k low (omega arith), place_order text k j high (omega arith))

pub place_within : (text : List ℕ) (k : ℕ) → k ≤ length text → place_of text k ≤ length (encode_utf8_all text)
place_within text k within = omega (arith, place_rises text k (length text) within (omega arith), place_end text)

-- The bytes before a place are those of the characters before its index, and likewise those behind it.
pub take_place : (text : List ℕ) (k : ℕ) → take (place_of text k) (encode_utf8_all text) ≡ encode_utf8_all (take k text)
take_place text k =
    ap (λ bs. take (place_of text k) bs) (sym (ap encode_utf8_all (take-append-drop k text))
    ∙ encodes-append (take k text) (drop k text)) ∙
    take_at (encode_utf8_all (take k text)) (encode_utf8_all (drop k text)) (place_of text k) refl

pub drop_place : (text : List ℕ) (k : ℕ) → drop (place_of text k) (encode_utf8_all text) ≡ encode_utf8_all (drop k text)
drop_place text k =
    ap (λ bs. drop (place_of text k) bs) (sym (ap encode_utf8_all (take-append-drop k text))
    ∙ encodes-append (take k text) (drop k text)) ∙
    drop_at (encode_utf8_all (take k text)) (encode_utf8_all (drop k text)) (place_of text k) refl

-- The place of an index further on, in two parts.
pub place_add : (text : List ℕ) (j n : ℕ) → place_of text (j + n) ≡ place_of text j + place_of (drop j text) n
place_add text j n = grind (arith, common_steps, take-add, encodes-append, length-append)

-- the bytes from one place to another
pub part_place : (text : List ℕ) (j k : ℕ) → j ≤ k → k ≤ length text →
    take (place_of text k - place_of text j) (drop (place_of text j) (encode_utf8_all text))
    ≡ encode_utf8_all (take (k - j) (drop j text))
part_place text j k order within =
    let rest = drop j text in
    let same : place_of text k - place_of text j ≡ place_of rest (k - j) =
    omega (arith, place_add text j (k - j), ap (place_of text) (let e : j + (k - j) ≡ k = omega arith in e)) in
    ap (λ n. take n (drop (place_of text j) (encode_utf8_all text))) same
    ∙ (ap (λ bs. take (place_of rest (k - j)) bs) (drop_place text j) ∙ take_place rest (k - j))

-- A place on a boundary of characters is that of an index.
pub record IsIndexAt (bytes : List ℕ) (place : ℕ) : Type 0 where
  pub index : ℕ
  pub within : index ≤ length (chars bytes)
  pub place_is : place_of (chars bytes) index ≡ place

pub index_at : (bytes : List ℕ) (place : ℕ) → IsUtf8 bytes → IsCharBoundary bytes place → IsIndexAt bytes place
index_at bytes place utf8 boundary =
    let front = take place bytes in
    let is_front : IsUtf8 front = IsUtf8-take bytes place utf8 boundary in
    let split : chars bytes ≡ chars front ++ chars (drop place bytes) = grind (arith, common_steps, (take-append-drop place bytes), (chars-append front (drop place bytes) is_front)) in
    record {
      index = length (chars front);
      within = omega (arith, ap length split, length-append (chars front) (chars (drop place bytes)));
      place_is = grind (arith, common_steps, take_at, encodes-chars, length-take-le);
    }

scalars-take : (cs : List ℕ) (k : ℕ) → scalars cs ≡ true → scalars (take k cs) ≡ true
scalars-take cs zero e = refl
scalars-take [] (suc k) e = refl
scalars-take (c ∷ cs) (suc k) e =
    let both = and_parts (scalar c) (scalars cs) e in
    and_from (scalar c) (scalars (take k cs)) both.0 (scalars-take cs k both.1)

-- The place of an index is a boundary of characters.
pub place_boundary : (bytes : List ℕ) (k : ℕ) → IsUtf8 bytes → k ≤ length (chars bytes)
    → IsCharBoundary bytes (place_of (chars bytes) k)
place_boundary bytes k utf8 within =
    let place = place_of (chars bytes) k in
    let same : encode_utf8_all (chars bytes) ≡ bytes = encodes-chars bytes utf8 in
    let front : encode_utf8_all (take k (chars bytes)) ≡ take place bytes =
    sym (take_place (chars bytes) k) ∙ ap (take place) same in
    IsCharBoundary-from_take bytes place utf8 (omega (arith, place_within (chars bytes) k within, ap length same))
    (take k (chars bytes), (scalars-take (chars bytes) k (scalars-chars bytes utf8), front))
