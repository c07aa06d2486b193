-- Parts of which no two neighbours touch.
use Rattle.lsp_edit.proofs.Prelude.{arith, common_steps, ℕ, ◌≡◌, ◌-◌, false, List, [], ◌∷◌, ◌++◌, refl, append-nil, lt-ltb, le-ltb, ne_eqb, cases_eq, cases_lt, cases_Bool, Part, OldPart, NewPart, part_len, new_parts, touch, IsApart, NoneTouch, front_part, back_part, front_parts, back_parts, joined, put_part, put_parts, replaced_parts, through_part, put_through, through_parts}

-- A part apart from the first of others is apart from what begins where that one does.
apart_front : (part next : Part) (count : ℕ) → touch part next ≡ false → touch part (front_part next count) ≡ false
apart_front (OldPart from to) (OldPart next end) count e = e
apart_front part next count e = e

apart_back : (part : Part) (count : ℕ) (parts : List Part) → IsApart part parts → IsApart (back_part part count) parts
apart_back (OldPart from to) count (OldPart next end ∷ parts) e = e
apart_back part count parts e = e

apart_fronts : (part : Part) (parts : List Part) (place : ℕ) → IsApart part parts
    → IsApart part (front_parts parts place)
apart_fronts part [] place e = tt
apart_fronts part (next ∷ parts) place e =
    grind (arith, common_steps, ne_eqb, lt-ltb, le-ltb, cases_lt, cases_eq, apart_front)

pub fronts_apart : (parts : List Part) (place : ℕ) → NoneTouch parts → NoneTouch (front_parts parts place)
fronts_apart [] place none = tt
fronts_apart (part ∷ parts) place none =
    grind (
      arith,
      common_steps,
      ne_eqb,
      lt-ltb,
      le-ltb,
      cases_lt,
      cases_eq,
      (apart_fronts part parts (place - part_len part) none.0),
      (fronts_apart parts (place - part_len part) none.1),
    )

pub backs_apart : (parts : List Part) (place : ℕ) → NoneTouch parts → NoneTouch (back_parts parts place)
backs_apart [] place none = tt
backs_apart (part ∷ parts) place none =
    grind (
      arith,
      common_steps,
      lt-ltb,
      le-ltb,
      cases_lt,
      (apart_back part place parts none.0),
      (backs_apart parts (place - part_len part) none.1),
    )

-- What stands behind a part is as far from what it was joined to.
apart_joined : (from next end : ℕ) (parts : List Part) → IsApart (OldPart next end) parts
    → IsApart (OldPart from end) parts
apart_joined from next end (OldPart low high ∷ parts) e = e
apart_joined from next end parts e = e

-- Two parts, joined where they touch, with others behind them.
joined_apart : (first part : Part) (parts : List Part) → IsApart part parts → NoneTouch parts
    → NoneTouch (joined first part ++ parts)
joined_apart (OldPart from to) (OldPart next end) parts e none =
    grind (arith, common_steps, cases_Bool, (apart_joined from next end parts e))
joined_apart first part parts e none = (refl, (e, none))

-- What a part is put behind begins where it began.
joined_begins : (before first part : Part) (parts : List Part) → touch before first ≡ false
    → IsApart before (joined first part ++ parts)
joined_begins (OldPart low high) (OldPart from to) (OldPart next end) parts e = grind (arith, common_steps, cases_Bool)
joined_begins (NewPart bytes) (OldPart from to) (OldPart next end) parts e = grind (arith, common_steps, cases_Bool)
joined_begins before first part parts e = e

put_begins : (before first : Part) (rest : List Part) (part : Part) (parts : List Part) → touch before first ≡ false
    → IsApart before (put_part (first ∷ rest) part ++ parts)
put_begins before first [] part parts e = joined_begins before first part parts e
put_begins before first (second ∷ rest) part parts e = e

put_apart : (made : List Part) (part : Part) (parts : List Part) → NoneTouch made → IsApart part parts → NoneTouch parts
    → NoneTouch (put_part made part ++ parts)
put_apart [] part parts none e more = (e, more)
put_apart (first ∷ []) part parts none e more = joined_apart first part parts e more
put_apart (first ∷ second ∷ made) part parts none e more =
    (put_begins first second made part parts none.0, put_apart (second ∷ made) part parts none.1 e more)

pub put_all_apart : (made parts : List Part) → NoneTouch made → NoneTouch parts → NoneTouch (put_parts made parts)
put_all_apart made [] none more = none
put_all_apart made (part ∷ parts) none more = put_apart made part parts none more.0 more.1

pub new_apart : (bytes : List ℕ) → NoneTouch (new_parts bytes)
new_apart bytes = grind (arith, common_steps, cases_Bool)

-- A new text touches nothing.
behind_apart : (parts : List Part) (bytes : List ℕ) → NoneTouch parts → NoneTouch (parts ++ NewPart bytes ∷ [])
behind_apart [] bytes none = (tt, tt)
behind_apart (OldPart from to ∷ []) bytes none = (refl, (tt, tt))
behind_apart (NewPart new ∷ []) bytes none = (refl, (tt, tt))
behind_apart (part ∷ next ∷ parts) bytes none = (none.0, behind_apart (next ∷ parts) bytes none.1)

with_new_apart : (parts : List Part) (bytes : List ℕ) → NoneTouch parts → NoneTouch (parts ++ new_parts bytes)
with_new_apart parts bytes none =
    grind (arith, common_steps, append-nil, cases_Bool, (behind_apart parts bytes none))

pub replaced_apart : (parts : List Part) (start stop : ℕ) (bytes : List ℕ) → NoneTouch parts
    → NoneTouch (replaced_parts parts start stop bytes)
replaced_apart parts start stop bytes none =
    put_all_apart (front_parts parts start ++ new_parts bytes) (back_parts parts stop)
    (with_new_apart (front_parts parts start) bytes (fronts_apart parts start none)) (backs_apart parts stop none)

part_apart : (first : List Part) (part : Part) → NoneTouch first → NoneTouch (through_part first part)
part_apart first (OldPart from to) none = fronts_apart (back_parts first from) (to - from) (backs_apart first from none)
part_apart first (NewPart bytes) none = (tt, tt)

through_rest_apart : (first made second : List Part) → NoneTouch first → NoneTouch made
    → NoneTouch (put_through first made second)
through_rest_apart first made [] none so_far = so_far
through_rest_apart first made (part ∷ second) none so_far =
    through_rest_apart first (put_parts made (through_part first part)) second none
    (put_all_apart made (through_part first part) so_far (part_apart first part none))

pub through_apart : (first second : List Part) → NoneTouch first → NoneTouch (through_parts first second)
through_apart first second none = through_rest_apart first [] second none tt
