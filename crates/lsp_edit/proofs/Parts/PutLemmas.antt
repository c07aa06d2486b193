-- Parts with the bytes between two places replaced: what they stand for, and how many they are.
use Rattle.lsp_edit.proofs.Prelude.{ℕ, suc, ◌≡◌, ◌+◌, ◌-◌, ◌≤◌, true, false, List, [], ◌∷◌, ◌++◌, length, map, take, drop, ◌==◌, sym, ap, ap₂, ◌∙◌, arith, append_assoc, append-nil, lt-ltb, le-ltb, ne_eqb, eq-eqb, eqb-true, ⊎_elim, chars, IsUtf8, is_utf8, cases_eq, cases_lt, cases_Bool, map-append, length-append, nil_from_length, flat_map-append, chars-nil, place_of, numbers_from, Item, Old, New, text_of, Part, OldPart, NewPart, index_of, items_in, items_of, part_len, IsPartOf, AreParts, new_parts, front_parts, back_parts, joined, put_part, put_parts, replaced_parts, common_steps}
use Rattle.lsp_edit.proofs.Canonical.RebuiltLemmas.{numbers_between}
use Rattle.lsp_edit.proofs.Parts.IndexLemmas.{index_rises}
use Rattle.lsp_edit.proofs.Parts.CutPartsLemmas.{AreCutAt, cut_parts}

-- How many parts there are.
pub back_fewer : (parts : List Part) (place : ℕ) → length (back_parts parts place) ≤ length parts
back_fewer [] place = omega arith
back_fewer (part ∷ parts) place =
    grind (arith, common_steps, lt-ltb, le-ltb, cases_lt, (back_fewer parts (place - part_len part)))

pub cut_adds : (parts : List Part) (start stop : ℕ) → start ≤ stop → length (front_parts parts start)
    + length (back_parts parts stop) ≤ suc (length parts)
cut_adds [] start stop order = omega arith
cut_adds (part ∷ parts) start stop order =
    grind (
      arith,
      common_steps,
      back_fewer,
      ne_eqb,
      lt-ltb,
      le-ltb,
      cases_lt,
      cases_eq,
      (cut_adds parts (start - part_len part) (stop - part_len part) (omega arith)),
    )

joined_few : (first part : Part) → length (joined first part) ≤ 2
joined_few (OldPart from to) (OldPart next end) = grind (arith, common_steps, cases_Bool)
joined_few first part = omega arith

put_one_more : (parts : List Part) (part : Part) → length (put_part parts part) ≤ suc (length parts)
put_one_more [] part = omega arith
put_one_more (first ∷ []) part = joined_few first part
put_one_more (first ∷ second ∷ parts) part = grind (arith, common_steps, (put_one_more (second ∷ parts) part))

pub put_all_few : (parts more : List Part) → length (put_parts parts more) ≤ length parts + length more
put_all_few parts [] = omega arith
put_all_few parts (first ∷ rest) = omega (arith, length-append (put_part parts first) rest, put_one_more parts first)

pub new_few : (bytes : List ℕ) → length (new_parts bytes) ≤ 1
new_few bytes = grind (arith, common_steps, cases_Bool)

-- A replacement adds two parts at most.
pub replaced_few : (parts : List Part) (start stop : ℕ) (bytes : List ℕ) → start ≤ stop
    → length (replaced_parts parts start stop bytes) ≤ length parts + 2
replaced_few parts start stop bytes order =
    omega (
      arith,
      put_all_few (front_parts parts start ++ new_parts bytes) (back_parts parts stop),
      length-append (front_parts parts start) (new_parts bytes),
      new_few bytes,
      cut_adds parts start stop order,
    )

module _ (old : List ℕ) where
  joined_items : (first part : Part) → IsPartOf old first → IsPartOf old part
      → (items_of (chars old) (joined first part) ≡ items_in (chars old) first ++ items_in (chars old) part)
      × AreParts old (joined first part)
  joined_items (OldPart from to) (OldPart next end) is was =
      ⊎_elim
      (λ (e : (to == next) ≡ true). touching (eqb-true to next e) e)
      (λ (e : (to == next) ≡ false). grind (arith, common_steps, append-nil))
      (cases_Bool (to == next))
    where
      rows : (a b c : ℕ) → a ≤ b → b ≤ c → map Old (numbers_from a (c - a)) ≡ map Old (numbers_from a (b - a))
          ++ map Old (numbers_from b (c - b))
      rows a b c low high =
          ap (map Old) (numbers_between a b c low high)
          ∙ map-append Old (numbers_from a (b - a)) (numbers_from b (c - b))

      touching : to ≡ next → (to == next) ≡ true → (items_of (chars old) (joined (OldPart from to) (OldPart next end))
          ≡ items_in (chars old) (OldPart from to) ++ items_in (chars old) (OldPart next end))
          × AreParts old (joined (OldPart from to) (OldPart next end))
      touching same e =
          let here = rows (index_of (chars old) from) (index_of (chars old) to) (index_of (chars old) end)
          (index_rises (chars old) from to (omega (arith, is.0)))
          (index_rises (chars old) to end (omega (arith, was.0))) in
          rw e (grind (arith, common_steps, append-nil), ((omega (arith, is.0, was.0), is.1, was.2), tt))
  joined_items (OldPart from to) (NewPart bytes) is was = grind (arith, common_steps, append-nil)
  joined_items (NewPart bytes) part is was =
      (ap (λ (i : List Item). map New (chars bytes) ++ i) (append-nil (items_in (chars old) part)), (is, (was, tt)))

  put_items : (parts : List Part) (part : Part) → AreParts old parts → IsPartOf old part
      → (items_of (chars old) (put_part parts part) ≡ items_of (chars old) parts ++ items_in (chars old) part)
      × AreParts old (put_part parts part)
  put_items [] part are is = (append-nil (items_in (chars old) part), (is, tt))
  put_items (first ∷ []) part are is = grind (arith, common_steps, joined_items, append-nil)
  put_items (first ∷ second ∷ parts) part are is =
      grind (arith, common_steps, append_assoc, (put_items (second ∷ parts) part are.1 is))

  pub are_both : (parts more : List Part) → AreParts old parts → AreParts old more → AreParts old (parts ++ more)
  are_both [] more are were = were
  are_both (part ∷ parts) more are were = (are.0, are_both parts more are.1 were)

  pub put_all_items : (parts more : List Part) → AreParts old parts → AreParts old more
      → (items_of (chars old) (put_parts parts more) ≡ items_of (chars old) parts ++ items_of (chars old) more)
      × AreParts old (put_parts parts more)
  put_all_items parts [] are were = (sym (append-nil (items_of (chars old) parts)), are)
  put_all_items parts (first ∷ rest) are were =
      let p = put_items parts first are were.0 in (
        grind (arith, common_steps, flat_map-append, append_assoc),
        are_both (put_part parts first) rest p.1 were.1,
      )

  pub new_items : (bytes : List ℕ) → is_utf8 bytes ≡ true
      → (items_of (chars old) (new_parts bytes) ≡ map New (chars bytes)) × AreParts old (new_parts bytes)
  new_items bytes utf8 =
      grind (arith, common_steps, nil_from_length, eqb-true, chars-nil, append-nil, cases_Bool, eq-eqb, cases_eq)

  -- What the parts stand for whose bytes between the places of two indexes were replaced.
  pub replaced_items : IsUtf8 old → (parts : List Part) (start stop : ℕ) (bytes : List ℕ) → AreParts old parts
      → is_utf8 bytes ≡ true → start ≤ stop → stop ≤ length (items_of (chars old) parts)
      → (items_of (chars old) (replaced_parts parts (place_of (text_of (chars old) (items_of (chars old) parts)) start)
      (place_of (text_of (chars old) (items_of (chars old) parts)) stop) bytes)
      ≡ take start (items_of (chars old) parts) ++ (map New (chars bytes) ++ drop stop (items_of (chars old) parts)))
      × AreParts old (replaced_parts parts (place_of (text_of (chars old) (items_of (chars old) parts)) start)
      (place_of (text_of (chars old) (items_of (chars old) parts)) stop) bytes)
  replaced_items old_utf8 parts start stop bytes are utf8 order within =
      let text : List ℕ = text_of (chars old) (items_of (chars old) parts) in
      let a = cut_parts old old_utf8 parts start are (omega arith) in
      let b : AreCutAt old old_utf8 parts stop (place_of text stop) = cut_parts old old_utf8 parts stop are within in
      let n = new_items bytes utf8 in
      let front : List Part = front_parts parts (place_of text start) ++ new_parts bytes in
      let front_is = flat_map-append (items_in (chars old)) (front_parts parts (place_of text start)) (new_parts bytes)
      ∙ ap₂ (λ (x y : List Item). x ++ y) a.front n.0 in
      let all =
      put_all_items front (back_parts parts (place_of text stop)) (are_both (front_parts parts (place_of text start))
      (new_parts bytes) a.front_are n.1) b.back_are in (grind (arith, common_steps, ap₂, append_assoc), all.1)
