-- A walk over parts, which never goes back to those that it passed.
use Rattle.lsp_edit.proofs.Prelude.{ℕ, suc, ◌≡◌, ◌+◌, ◌-◌, ◌<◌, ◌≤◌, List, [], ◌∷◌, ◌++◌, length, drop, max, refl, ap, ap₂, ◌∙◌, arith, append_assoc, append-nil, lt-ltb, le-ltb, ne_eqb, ⊎_elim, cases_eq, cases_lt, length-drop, new_parts, Part, OldPart, NewPart, part_len, Ascend, EndAfter, first_front, put_first_back, replaced_parts, back_part, front_parts, back_parts, IsCutAt, AreCut, put_part, put_parts, between_parts, put_through, through_parts, AreThrough, ArePassed, common_steps}
use Rattle.lsp_edit.proofs.Parts.PutLemmas.{put_all_few, back_fewer, cut_adds}
use Rattle.lsp_edit.proofs.Parts.PassingLemmas.{passed_later, more_passed}

-- How far parts were told through others: what is left to tell gives the rest, over the parts that were not passed.
pub record Walks (first second made rest : List Part) (passed : ℕ) (left : List Part) : Type 0 where
  pub low : ℕ
  pub error : put_through first made left ≡ through_parts first second
  pub through : AreThrough first left
  pub order : Ascend low left
  pub are : ArePassed first rest passed low

module _ (first second made rest : List Part) (passed : ℕ) (left : List Part)
    (walks : Walks first second made rest passed left) where
  -- behind a part of a new text
  pub walk_new : (bytes : List ℕ) (more : List Part) → left ≡ NewPart bytes ∷ more
      → Walks first second (put_part made (NewPart bytes)) rest passed more
  walk_new bytes more is = grind (arith, common_steps, append-nil)

  -- at a part of the middle text
  module _ (from to : ℕ) (more : List Part) (is : left ≡ OldPart from to ∷ more) where
    pub walk_old : (now after : List Part) (on : ℕ)
        → now ≡ put_parts made (front_parts (back_parts rest (from - passed)) (to - from))
        → ArePassed rest after on (from - passed) → Walks first second now after (passed + on) more
    walk_old now after on made_is were = grind (arith, common_steps, passed_later, more_passed)

-- Parts put behind others, of which the last may be touched.
put_behind_more : (front : List Part) (first : Part) (made : List Part) (part : Part)
    → put_part (front ++ first ∷ made) part ≡ front ++ put_part (first ∷ made) part
put_behind_more [] first made part = refl
put_behind_more (one ∷ []) first made part = refl
put_behind_more (one ∷ two ∷ front) first made part =
    ap (λ (ps : List Part). one ∷ ps) (put_behind_more (two ∷ front) first made part)

put_behind_some : (front made : List Part) (part : Part) → (made ≡ [] → front ≡ []) → put_part (front ++ made) part
    ≡ front ++ put_part made part
put_behind_some front [] part none = rw (none refl) refl
put_behind_some front (first ∷ made) part none = put_behind_more front first made part

first_some : (rest : List Part) (place : ℕ) (new : List Part) → (rest ≡ [] → ⊥) → first_front rest place ++ new ≡ []
    → place ≡ 0
first_some [] place new some e = absurd (some refl)
first_some (part ∷ parts) place new some e = grind (arith, common_steps, ne_eqb, cases_eq)

-- What the parts are whose bytes between two places were replaced, told by those that were passed on the way to each.
pub replaced_is : (parts front rest later : List Part) (start stop passed more : ℕ) (text : List ℕ) → start ≤ stop
    → ArePassed parts rest passed start → front_parts parts start ≡ front ++ first_front rest (start - passed)
    → (start - passed ≡ 0 → front ≡ []) → ArePassed rest later more (stop - passed)
    → EndAfter later ((stop - passed) - more) → (rest ≡ [] → later ≡ [])
    → front ++ (put_first_back (first_front rest (start - passed) ++ new_parts text) later ((stop - passed) - more)
    ++ drop 1 later) ≡ replaced_parts parts start stop text
replaced_is parts front rest later start stop passed more text order are front_is first were rest_after some =
    grind (arith, common_steps, ap₂, append_assoc, append-nil, put_behind_some, first_some, lt-ltb)

-- How many parts there are between places that ascend: those passed on the way, and one more for each cut.
back_later : (parts : List Part) (low high : ℕ) → low ≤ high → length (back_parts parts high)
    ≤ length (back_parts parts low)
back_later [] low high order = omega arith
back_later (part ∷ parts) low high order =
    grind (
      arith,
      common_steps,
      back_fewer,
      lt-ltb,
      le-ltb,
      cases_lt,
      (back_later parts (low - part_len part) (high - part_len part) (omega arith)),
    )

-- what lies behind a place behind another one
back_twice : (parts : List Part) (from to : ℕ) → from ≤ to → AreCut parts from
    → length (back_parts (back_parts parts from) (to - from)) ≡ length (back_parts parts to)
back_twice [] from to order cut = refl
back_twice (part ∷ parts) from to order cut =
    ⊎_elim
    (λ (l : from < part_len part).
    let f : back_parts (part ∷ parts) from ≡ back_part part from ∷ parts = rw (lt-ltb from (part_len part) l) refl in
    ap (λ (ps : List Part). length (back_parts ps (to - from))) f ∙ inside l)
    (λ (l : part_len part ≤ from).
    grind (
      arith,
      common_steps,
      le-ltb,
      (back_twice parts (from - part_len part) (to - part_len part) (omega arith) (cut.2 l)),
    ))
    (cases_lt from (part_len part))
  where
    back_len : (p : Part) (count : ℕ) → IsCutAt p count → part_len (back_part p count) ≡ part_len p - count
    back_len (OldPart a b) count is = omega arith
    back_len (NewPart bytes) count is = simp length-drop

    inside : from < part_len part → length (back_parts (back_part part from ∷ parts) (to - from))
        ≡ length (back_parts (part ∷ parts) to)
    inside l = grind (arith, common_steps, back_len, lt-ltb, le-ltb, cases_lt)

front_fewer : (parts : List Part) (place : ℕ) → length (front_parts parts place) ≤ length parts
front_fewer [] place = omega arith
front_fewer (part ∷ parts) place =
    grind (arith, common_steps, ne_eqb, lt-ltb, le-ltb, cases_lt, cases_eq, (front_fewer parts (place - part_len part)))

module _ (first : List Part) where
  between_few : (from to : ℕ) → from ≤ to → AreCut first from → length (between_parts first from to)
      + length (back_parts first to) ≤ suc (length (back_parts first from))
  between_few from to order cut = grind (arith, common_steps, cut_adds, back_twice)

  put_few : (made second : List Part) (low : ℕ) → Ascend low second → AreThrough first second
      → length (put_through first made second) + 1 ≤ (length made + length second)
      + max 1 (length (back_parts first low))
  put_few made [] low ascend are = omega arith
  put_few made (NewPart bytes ∷ second) low ascend are =
      let ih = put_few (put_parts made (NewPart bytes ∷ [])) second low ascend are.1 in
      let one = put_all_few made (NewPart bytes ∷ []) in
      omega arith
  put_few made (OldPart from to ∷ second) low ascend are =
      grind (
        arith,
        common_steps,
        max,
        put_all_few,
        between_few,
        front_fewer,
        back_later,
        (put_few (put_parts made (between_parts first from to)) second to ascend.2 are.1),
      )

  -- Told through others there are as many as both have together, less one.
  pub through_few : (second : List Part) → Ascend 0 second → AreThrough first second
      → length (through_parts first second) + 1 ≤ length second + max 1 (length first)
  through_few second ascend are = omega (arith, put_few [] second 0 ascend are, back_fewer first 0)
