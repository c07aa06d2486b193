-- Parts cut at the place of an index: their items are those before it and behind it.
use Rattle.lsp_edit.proofs.Prelude.{ℕ, ◌≡◌, ◌+◌, ◌-◌, ◌<◌, ◌≤◌, List, [], ◌∷◌, length, map, take, drop, refl, sym, ap, ◌∙◌, arith, take_at, drop_at, take-take, length-take-le, encode_utf8_all, IsCharBoundary, chars, IsUtf8, length-map, length-drop, take-map, drop-map, encodes-chars, IsUtf8-take, IsUtf8-drop, IsUtf8-from_is_utf8, is_utf8-from_IsUtf8, chars_from_encodes, place_of, numbers_from, place_end, place_rises, place_add, take_place, drop_place, part_place, place_boundary, place_within, Item, Old, New, character_of, text_of, Part, OldPart, NewPart, index_of, items_in, bytes_in, part_len, IsPartOf, front_part, back_part, IsOrdered, IsCutAt, numbers_split}
use Rattle.lsp_edit.proofs.Canonical.RebuiltLemmas.{length-numbers, text_row}
use Rattle.lsp_edit.proofs.Parts.IndexLemmas.{index_of-place, index_rises, index_place}

pub take_numbers : (low count more : ℕ) → take count (numbers_from low (count + more)) ≡ numbers_from low count
take_numbers low count more = ap (take count) (numbers_split low count more) ∙ take_at (numbers_from low count)
    (numbers_from (low + count) more) count (length-numbers low count)

pub drop_numbers : (low count more : ℕ) → drop count (numbers_from low (count + more)) ≡ numbers_from (low + count) more
drop_numbers low count more = ap (drop count) (numbers_split low count more) ∙ drop_at (numbers_from low count)
    (numbers_from (low + count) more) count (length-numbers low count)

pub text_of-new : (old characters : List ℕ) → text_of old (map New characters) ≡ characters
text_of-new old [] = refl
text_of-new old (c ∷ characters) = ap (λ (cs : List ℕ). c ∷ cs) (text_of-new old characters)

-- the first characters of a text have its first bytes
pub chars_front : (bytes : List ℕ) (k : ℕ) → IsUtf8 bytes → k ≤ length (chars bytes)
    → chars (take (place_of (chars bytes) k) bytes) ≡ take k (chars bytes)
chars_front bytes k utf8 within =
    let e : encode_utf8_all (chars bytes) ≡ bytes = encodes-chars bytes utf8 in
    let t = ap (take (place_of (chars bytes) k)) (sym e) ∙ take_place (chars bytes) k in
    sym (chars_from_encodes (take k (chars bytes)) (take (place_of (chars bytes) k) bytes)
    (IsUtf8-take bytes (place_of (chars bytes) k) utf8 (place_boundary bytes k utf8 within)) (sym t))

chars_back : (bytes : List ℕ) (k : ℕ) → IsUtf8 bytes → k ≤ length (chars bytes)
    → chars (drop (place_of (chars bytes) k) bytes) ≡ drop k (chars bytes)
chars_back bytes k utf8 within =
    let e : encode_utf8_all (chars bytes) ≡ bytes = encodes-chars bytes utf8 in
    let t = ap (drop (place_of (chars bytes) k)) (sym e) ∙ drop_place (chars bytes) k in
    sym (chars_from_encodes (drop k (chars bytes)) (drop (place_of (chars bytes) k) bytes)
    (IsUtf8-drop bytes (place_of (chars bytes) k) utf8 (place_boundary bytes k utf8 within)) (sym t))

module _ (old : List ℕ) (utf8 : IsUtf8 old) where
  abbrev count : ℕ → ℕ → ℕ
  count from to = index_of (chars old) to - index_of (chars old) from

  -- A part of the old text, by the indexes of its ends.
  record IsRow (from to : ℕ) : Type 0 where
    last : index_of (chars old) from + count from to ≡ index_of (chars old) to
    within : index_of (chars old) from + count from to ≤ length (chars old)
    from_is : place_of (chars old) (index_of (chars old) from) ≡ from
    to_is : place_of (chars old) (index_of (chars old) from + count from to) ≡ to
    text_is : text_of (chars old) (items_in (chars old) (OldPart from to))
        ≡ take (count from to) (drop (index_of (chars old) from) (chars old))

  row_of : (from to : ℕ) → IsPartOf old (OldPart from to) → IsRow from to
  row_of from to is =
      let a = index_place old utf8 from is.1 in
      let b = index_place old utf8 to is.2 in
      let order = index_rises (chars old) from to (omega (arith, is.0)) in
      let all : index_of (chars old) from + count from to ≡ index_of (chars old) to = omega arith in
      record {
        last = all;
        within = omega (arith, b.1);
        from_is = a.0;
        to_is = ap (place_of (chars old)) all ∙ b.0;
        text_is = text_row (chars old) (index_of (chars old) from) (count from to) (omega (arith, b.1));
      }

  -- The bytes of a part are those of its items' characters.
  pub part_bytes : (part : Part) → IsPartOf old part → bytes_in old part
      ≡ encode_utf8_all (text_of (chars old) (items_in (chars old) part))
  part_bytes (NewPart bytes) is =
      sym (ap encode_utf8_all (text_of-new (chars old) (chars bytes))
      ∙ encodes-chars bytes (IsUtf8-from_is_utf8 bytes is.1))
  part_bytes (OldPart from to) is =
      let r : IsRow from to = row_of from to is in
      let low : ℕ = index_of (chars old) from in
      let n : (low + count from to) - low ≡ count from to = omega arith in
      rw r.text_is (rw (r.from_is, r.to_is, encodes-chars old utf8, n) at
      (part_place (chars old) low (low + count from to) (omega arith) r.within))

  pub part_length : (part : Part) → IsPartOf old part → part_len part
      ≡ length (encode_utf8_all (text_of (chars old) (items_in (chars old) part)))
  part_length (NewPart bytes) is = ap length (part_bytes (NewPart bytes) is)
  part_length (OldPart from to) is =
      let b = length-take-le (to - from) (drop from old) (simp length-drop (omega (arith, is.0, is.2.0))) in
      sym b ∙ ap length (part_bytes (OldPart from to) is)

  -- Where a part of the old text is cut at the place of one of its indexes.
  record IsRowCut (from to k : ℕ) : Type 0 where
    inside : k ≤ count from to
    place_is : from + place_of (text_of (chars old) (items_in (chars old) (OldPart from to))) k
        ≡ place_of (chars old) (index_of (chars old) from + k)
    cut_is : index_of (chars old) (from + place_of (text_of (chars old) (items_in (chars old) (OldPart from to))) k)
        ≡ index_of (chars old) from + k

  row_cut : (from to k : ℕ) → IsRow from to → k ≤ length (items_in (chars old) (OldPart from to)) → IsRowCut from to k
  row_cut from to k row within =
      let low : ℕ = index_of (chars old) from in
      let in_row : k ≤ count from to =
      omega (arith, length-map (numbers_from low (count from to)) Old, length-numbers low (count from to)) in
      let t = ap (λ (cs : List ℕ). place_of cs k) row.text_is in
      let u : place_of (take (count from to) (drop low (chars old))) k ≡ place_of (drop low (chars old)) k =
      ap (λ (cs : List ℕ). length (encode_utf8_all cs)) (take-take k (count from to) (drop low (chars old)) in_row) in
      let q : from + place_of (text_of (chars old) (items_in (chars old) (OldPart from to))) k
      ≡ place_of (chars old) (low + k) = omega (arith, t, u, place_add (chars old) low k, row.from_is) in
      record {
        inside = in_row;
        place_is = q;
        cut_is = ap (index_of (chars old)) q ∙ index_of-place (chars old) (low + k) (omega (arith, row.within));
      }

  pub place_above : (text : List ℕ) (k : ℕ) → 0 < k → k ≤ length text → 0 < place_of text k
  place_above text k some within = let r = place_rises text 0 k (omega arith) within in omega arith

  pub place_below : (text : List ℕ) (k : ℕ) → k < length text → place_of text k < length (encode_utf8_all text)
  place_below text k within = omega (
    arith,
    place_rises text k (length text) (omega arith) (omega arith),
    place_end text,
  )

  pub text_long : (items : List Item) → length (text_of (chars old) items) ≡ length items
  text_long items = length-map items (character_of (chars old))

  -- A part cut at the place of one of its indexes. What is cut off is a part, where it isn't empty.
  pub record IsPartCut (part : Part) (k place : ℕ) : Type 0 where
    pub front : items_in (chars old) (front_part part place) ≡ take k (items_in (chars old) part)
    pub back : items_in (chars old) (back_part part place) ≡ drop k (items_in (chars old) part)
    pub front_is : 0 < k → IsPartOf old (front_part part place)
    pub back_is : k < length (items_in (chars old) part) → IsPartOf old (back_part part place)
    pub cut : IsCutAt part place

  pub part_cut : (part : Part) (k : ℕ) → IsPartOf old part → k ≤ length (items_in (chars old) part)
      → IsPartCut part k (place_of (text_of (chars old) (items_in (chars old) part)) k)
  part_cut (NewPart bytes) k is within =
      let u : IsUtf8 bytes = IsUtf8-from_is_utf8 bytes is.1 in
      let n : length (map New (chars bytes)) ≡ length (chars bytes) = length-map (chars bytes) New in
      let place : ℕ = place_of (chars bytes) k in
      let b : IsCharBoundary bytes place = place_boundary bytes k u (omega arith) in
      rw (text_of-new (chars old) (chars bytes)) (record {
        front = rw (chars_front bytes k u (omega arith)) (sym (take-map New k (chars bytes)));
        back = rw (chars_back bytes k u (omega arith)) (sym (drop-map New k (chars bytes)));
        front_is = λ some.
            let above : 0 < place_of (chars bytes) k = place_above (chars bytes) k some (omega arith) in
            let long = length-take-le (place_of (chars bytes) k) bytes b.0 in
            (omega arith, is_utf8-from_IsUtf8 (take place bytes) (IsUtf8-take bytes place u b));
        back_is = λ less.
            let below = place_below (chars bytes) k (omega arith) in
            let same : length (encode_utf8_all (chars bytes)) ≡ length bytes = ap length (encodes-chars bytes u) in
            (simp length-drop (omega arith), is_utf8-from_IsUtf8 (drop place bytes) (IsUtf8-drop bytes place u b));
        cut = b;
      })
  part_cut (OldPart from to) k is within =
      let r : IsRow from to = row_of from to is in
      let c : IsRowCut from to k = row_cut from to k r within in
      let low : ℕ = index_of (chars old) from in
      let text : List ℕ = text_of (chars old) (items_in (chars old) (OldPart from to)) in
      let long = text_long (items_in (chars old) (OldPart from to)) in
      let at : IsCharBoundary old (from + place_of text k) =
      rw c.place_is (place_boundary old (low + k) utf8 (omega (arith, r.within, c.inside))) in
      let n : (low + k) - low ≡ k = omega arith in
      let n_back : index_of (chars old) to - (low + k) ≡ count from to - k = omega (arith, r.last) in
      let m : k + (count from to - k) ≡ count from to = omega (arith, c.inside) in
      record {
        front = ap (λ (x : ℕ). map Old (numbers_from low (x - low))) c.cut_is
            ∙ (ap (λ (x : ℕ). map Old (numbers_from low x)) n
            ∙ sym (take-map Old k (numbers_from low (count from to))
            ∙ ap (map Old) (rw m at (take_numbers low k (count from to - k)))));
        back = ap (λ (x : ℕ). map Old (numbers_from x (index_of (chars old) to - x))) c.cut_is
            ∙ (ap (λ (x : ℕ). map Old (numbers_from (low + k) x)) n_back
            ∙ sym (drop-map Old k (numbers_from low (count from to))
            ∙ ap (map Old) (rw m at (drop_numbers low k (count from to - k)))));
        front_is = λ some. let above : 0 < place_of text k = place_above text k some (omega (arith, long)) in
            (omega arith, is.1, at);
        back_is = λ less. let below = place_below text k (omega (arith, long)) in
            (omega (arith, part_length (OldPart from to) is), at, is.2);
        cut = let p : place_of text k ≤ length (encode_utf8_all text) = place_within text k (omega (arith, long)) in
            (omega (arith, is.0), omega (arith, part_length (OldPart from to) is));
      }

  pub part_ordered : (part : Part) → IsPartOf old part → IsOrdered part
  part_ordered (NewPart bytes) is = tt
  part_ordered (OldPart from to) is = omega (arith, is.0)
