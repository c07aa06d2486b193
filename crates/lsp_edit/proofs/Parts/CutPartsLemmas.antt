-- Parts in a row, cut at the place of an index.
use Rattle.lsp_edit.proofs.Prelude.{ℕ, zero, suc, ◌≡◌, ◌+◌, ◌-◌, ◌<◌, ◌≤◌, List, [], ◌∷◌, ◌++◌, length, take, drop, refl, sym, ap, ap₂, ◌∙◌, arith, append-nil, take_at, drop_at, lt-ltb, le-ltb, ne_eqb, encode_utf8_all, ⊎_elim, chars, IsUtf8, cases_lt, map-append, length-append, take-append-le, drop-append-le, encodes-append, place_of, place_add, Item, text_of, Part, items_in, items_of, bytes_of, part_len, IsPartOf, AreParts, front_part, back_part, front_parts, back_parts, AreCut, common_steps, IsUtf8-between, IsUtf8-from_is_utf8, IsUtf8-nil, NewPart, OldPart, bytes_in, IsUtf8-append}
use Rattle.lsp_edit.proofs.Parts.CutLemmas.{part_bytes, part_length, place_above, place_below, text_long, part_cut, part_ordered}
use Rattle.std.proofs.Math.Seq.{take-append-add, drop-append-add}

part_utf8 : (old : List ℕ) → IsUtf8 old → (part : Part) → IsPartOf old part → IsUtf8 (bytes_in old part)
part_utf8 old utf8 (NewPart bytes) is = IsUtf8-from_is_utf8 bytes is.1
part_utf8 old utf8 (OldPart from to) is = IsUtf8-between old from to utf8 (omega (arith, is.0)) is.1 is.2

pub parts_utf8 : (old : List ℕ) → IsUtf8 old → (parts : List Part) → AreParts old parts → IsUtf8 (bytes_of old parts)
parts_utf8 old utf8 [] are = IsUtf8-nil
parts_utf8 old utf8 (part ∷ parts) are =
    IsUtf8-append (bytes_in old part) (bytes_of old parts) (part_utf8 old utf8 part are.0)
    (parts_utf8 old utf8 parts are.1)

module _ (old : List ℕ) (utf8 : IsUtf8 old) where
  -- The bytes of parts are those of their items' characters.
  pub parts_bytes : (parts : List Part) → AreParts old parts → bytes_of old parts
      ≡ encode_utf8_all (text_of (chars old) (items_of (chars old) parts))
  parts_bytes [] are = refl
  parts_bytes (part ∷ parts) are =
      grind (
        arith,
        common_steps,
        ap₂,
        part_bytes,
        encodes-append,
        encode_utf8_all,
        map-append,
        (parts_bytes parts are.1),
      )

  pub part_some : (part : Part) → IsPartOf old part → 0 < part_len part
  part_some (Part.OldPart from to) is = omega (arith, is.0)
  part_some (Part.NewPart bytes) is = is.0

  -- Parts cut at a place that is an index's.
  pub record AreCutAt (parts : List Part) (k place : ℕ) : Type 0 where
    pub front : items_of (chars old) (front_parts parts place) ≡ take k (items_of (chars old) parts)
    pub back : items_of (chars old) (back_parts parts place) ≡ drop k (items_of (chars old) parts)
    pub front_are : AreParts old (front_parts parts place)
    pub back_are : AreParts old (back_parts parts place)
    pub cut : AreCut parts place

  module _ (part : Part) (parts : List Part) (is : IsPartOf old part) (are : AreParts old parts) (place : ℕ) where
    cut_inside : (k : ℕ) → 0 < k → k < length (items_in (chars old) part)
        → place ≡ place_of (text_of (chars old) (items_in (chars old) part)) k → AreCutAt (part ∷ parts) k place
    cut_inside k some inside e =
        let above = place_above old utf8 (text_of (chars old) (items_in (chars old) part)) k some
        (omega (arith, text_long old utf8 (items_in (chars old) part))) in
        let below = place_below old utf8 (text_of (chars old) (items_in (chars old) part)) k
        (omega (arith, text_long old utf8 (items_in (chars old) part))) in
        let less : place < part_len part = omega (arith, part_length old utf8 part is) in
        let not_first : place ≡ 0 → ⊥ = λ z. omega arith in
        let c = part_cut old utf8 part k is (omega arith) in
        let front_has = ap (λ (p : ℕ). items_in (chars old) (front_part part p)) e ∙ c.front in
        let back_has = ap (λ (p : ℕ). items_in (chars old) (back_part part p)) e ∙ c.back in
        let late = ne_eqb place 0 not_first in
        let within = lt-ltb place (part_len part) less in
        record {
          front = rw (late, within) (append-nil (items_in (chars old) (front_part part place)) ∙ (front_has
              ∙ sym (take-append-le k (items_in (chars old) part) (items_of (chars old) parts) (omega arith))));
          back = rw within (ap (λ (i : List Item). i ++ items_of (chars old) parts) back_has
              ∙ sym (drop-append-le k (items_in (chars old) part) (items_of (chars old) parts) (omega arith)));
          front_are = rw (late, within) (rw e (c.front_is some), tt);
          back_are = rw within (rw e (c.back_is inside), are);
          cut = (part_ordered old utf8 part is, λ l. rw e c.cut, λ l. absurd (omega arith));
        }

    cut_at_start : place ≡ 0 → AreCutAt (part ∷ parts) 0 place
    cut_at_start e =
        let some : 0 < part_len part = part_some part is in
        let c = part_cut old utf8 part 0 is (omega arith) in
        let long = sym (part_length old utf8 part is) in
        let within = lt-ltb 0 (part_len part) some in
        rw e (record {
          front = refl;
          back = rw within (ap (λ (i : List Item). i ++ items_of (chars old) parts) c.back);
          front_are = tt;
          back_are = rw within (c.back_is (items_some (items_in (chars old) part) (omega arith)), are);
          cut = (part_ordered old utf8 part is, λ l. c.cut, λ l. absurd (omega arith));
        })
      where
        items_some : (items : List Item) → 0 < length (encode_utf8_all (text_of (chars old) items)) → 0 < length items
        items_some [] h = absurd (omega arith)
        items_some (i ∷ items) h = omega arith

    cut_behind : (k rest : ℕ) → rest ≡ length (items_in (chars old) part) + k → place ≡ part_len part
        + place_of (text_of (chars old) (items_of (chars old) parts)) k
        → AreCutAt parts k (place_of (text_of (chars old) (items_of (chars old) parts)) k)
        → AreCutAt (part ∷ parts) rest place
    cut_behind k rest at e cuts =
        let some : 0 < part_len part = part_some part is in
        let not_first : place ≡ 0 → ⊥ = λ z. omega arith in
        let left : place - part_len part ≡ place_of (text_of (chars old) (items_of (chars old) parts)) k =
        omega arith in
        let late = ne_eqb place 0 not_first in
        let past = le-ltb place (part_len part) (omega arith) in
        record {
          front = rw (late, past, left, at) (ap (λ (i : List Item). items_in (chars old) part ++ i) cuts.front
              ∙ sym (take-append-add (items_in (chars old) part) (items_of (chars old) parts) k));
          back = rw (past, left, at) (cuts.back
              ∙ sym (drop-append-add (items_in (chars old) part) (items_of (chars old) parts) k));
          front_are = rw (late, past, left) (is, cuts.front_are);
          back_are = rw (past, left) cuts.back_are;
          cut = (part_ordered old utf8 part is, λ l. absurd (omega arith), λ l. rw left cuts.cut);
        }

  front_place : (items rest : List Item) (k : ℕ) → k ≤ length items → place_of (text_of (chars old) (items ++ rest)) k
      ≡ place_of (text_of (chars old) items) k
  front_place items rest k within = grind (arith, common_steps, text_long, map-append, encode_utf8_all, take-append-le)

  behind_place : (items rest : List Item) (k : ℕ) → place_of (text_of (chars old) (items ++ rest)) (length items + k)
      ≡ length (encode_utf8_all (text_of (chars old) items)) + place_of (text_of (chars old) rest) k
  behind_place items rest k =
      grind (arith, common_steps, text_long, place_add, encode_utf8_all, take_at, drop_at, map-append, ap₂)

  -- Parts may be cut at the place of each index of their text.
  pub cut_parts : (parts : List Part) (k : ℕ) → AreParts old parts → k ≤ length (items_of (chars old) parts)
      → AreCutAt parts k (place_of (text_of (chars old) (items_of (chars old) parts)) k)
  cut_parts [] zero are within = record { front = refl; back = refl; front_are = tt; back_are = tt; cut = tt }
  cut_parts [] (suc k) are within = absurd (omega arith)
  cut_parts (part ∷ parts) zero are within = cut_at_start part parts are.0 are.1 0 refl
  cut_parts (part ∷ parts) (suc k) are within =
      ⊎_elim
      (λ (inside : suc k < length (items_in (chars old) part)).
      cut_inside part parts are.0 are.1 (place_of (text_of (chars old) (items_of (chars old) (part ∷ parts))) (suc k))
      (suc k) (omega arith) inside (front_place (items_in (chars old) part) (items_of (chars old) parts) (suc k)
      (omega arith)))
      (λ (rest_after : length (items_in (chars old) part) ≤ suc k).
      let here : suc k ≡ length (items_in (chars old) part) + (suc k - length (items_in (chars old) part)) =
      omega arith in
      let long = length-append (items_in (chars old) part) (items_of (chars old) parts) in
      let p : place_of (text_of (chars old) (items_of (chars old) (part ∷ parts))) (suc k) ≡ part_len part
      + place_of (text_of (chars old) (items_of (chars old) parts)) (suc k - length (items_in (chars old) part))
      = ap (place_of (text_of (chars old) (items_of (chars old) (part ∷ parts)))) here
      ∙ (grind (arith, common_steps, behind_place, part_length)) in
      cut_behind part parts are.0 are.1 (place_of (text_of (chars old) (items_of (chars old) (part ∷ parts))) (suc k))
      (suc k - length (items_in (chars old) part)) (suc k) here p
      (cut_parts parts (suc k - length (items_in (chars old) part)) are.1 (omega arith)))
      (cases_lt (suc k) (length (items_in (chars old) part)))
