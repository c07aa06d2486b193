-- What text edits leave by indexes is what they leave once they are sorted by their byte offsets.
use Rattle.lsp_edit.proofs.Prelude.{ℕ, suc, ◌≡◌, ◌+◌, ◌-◌, ◌<◌, ◌≤◌, zero, Bool, true, false, cond, ◌==◌, nat_lt, nat_le, List, [], ◌∷◌, ◌++◌, length, map, filter, flat_map, slice_index_or as get_or, Ok, refl, sym, ap, ap₂, ◌∙◌, subst, arith, ⊎_elim, inl, inr, append-nil, lt-ltb, le-ltb, ltb-false, ne_eqb, eq-eqb, Contains, AllByRecursion, IsPermutation, ties, chars, IsUtf8, cases_Bool, cases_eq, cases_lt, length-map, recursion_from_All, filter_agree, All-permutation, Contains-permutation, IsNonDecreasingBy-from_sort, IsPermutation-map, IsPermutation-sym, list_any-IsPermutation, IsPlace, place_of, numbers_from, place_rises, Placed, TextEdit, TextEditFault, ContentChange, meaning, canonical, Item, Old, New, Keeps, Part, AreParts, index_of, items_of, LocatedEdit, located, new_at, is_taken_out, left_at, items_left, ComesBefore, NoneOverlap, IsBatchOfEdits, EditsOverlap, located_of, Lies, ArePlaced, IsInOrder, AreApart, old_parts, parts_left, AreLeftByEdits, DoOverlap, common_steps, flat_map-append}
use Rattle.std.specs.List.{All, AllPairs}
use Rattle.std.specs.Ordering.{is_lt, nat_cmp}
use Rattle.std.proofs.lemmas.List.{get_or-map, get_or_default}
use Rattle.std.proofs.lemmas.List.Kept.{AllPairs-filter}
use Rattle.lsp_edit.proofs.Canonical.RebuiltLemmas.{canonical_makes}
use Rattle.lsp_edit.proofs.Composing.EditedLemmas.{index_last}
use Rattle.lsp_edit.proofs.Parts.IndexLemmas.{index_of-place, index_rises, index_first}
use Rattle.lsp_edit.proofs.Parts.PutLemmas.{new_items}
use Rattle.lsp_edit.proofs.Batches.TextEditLemmas.{no_edit, at_first, at_index, at_whole, at_within, left_are}
use Rattle.lsp_edit.proofs.Batches.LocatedRowLemmas.{StandApart, stops_in_order, rises, none_overlap, at_one, agree, left_from, left_keeps, runs_through}

-- ---- a stable order

more_in : {X : Type 0} (passes : Bool) (x y : X) (xs : List X) → Contains xs y → Contains (cond passes (x ∷ xs) xs) y
more_in true x y xs has = (suc has.0, omega (arith, has.1), has.2)
more_in false x y xs has = has

kept : {X : Type 0} (test : X → Bool) (xs : List X) (k : ℕ) (d : X) → k < length xs → test (get_or xs k d) ≡ true
    → Contains (filter test xs) (get_or xs k d)
kept test [] k d less passes = absurd (omega arith)
kept test (x ∷ xs) zero d less passes = rw passes (0, omega arith, refl)
kept test (x ∷ xs) (suc k) d less passes =
    more_in (test x) x (get_or xs k d) (filter test xs) (kept test xs k d (omega arith) passes)

rest_pairs : {X : Type 0} (R : X → X → Type 0) (passes : Bool) (x : X) (xs : List X)
    → AllPairs R (cond passes (x ∷ xs) xs) → AllPairs R xs
rest_pairs R true x xs all = λ i j d less within. all (suc i) (suc j) d (omega arith) (omega arith)
rest_pairs R false x xs all = all

-- What holds of each two elements that pass a test, in their order, holds of them in the whole list.
unfiltered : {X : Type 0} (R : X → X → Type 0) (test : X → Bool) (xs : List X) → AllPairs R (filter test xs)
    → (i j : ℕ) (d : X) → i < j → j < length xs → test (get_or xs i d) ≡ true → test (get_or xs j d) ≡ true
    → R (get_or xs i d) (get_or xs j d)
unfiltered R test [] all i j d less within one other = absurd (omega arith)
unfiltered R test (x ∷ xs) all i zero d less within one other = absurd (omega arith)
unfiltered R test (x ∷ xs) all zero (suc j) d less within one other =
    let has : Contains (filter test xs) (get_or xs j d) = kept test xs j d (omega arith) other in
    let first : AllPairs R (x ∷ filter test xs) = rw one at all in
    subst (R x) has.2 (first 0 (suc has.0) (get_or xs j d) (omega arith) (omega (arith, has.1)))
unfiltered R test (x ∷ xs) all (suc i) (suc j) d less within one other =
    unfiltered R test xs (rest_pairs R (test x) x (filter test xs) all) i j d (omega arith) (omega arith) one other

-- Whether an edit starts at a byte offset.
abbrev starts_at : ℕ → Placed → Bool
starts_at place edit = place == edit.start

abbrev lower : Placed → Placed → Bool
lower p q = is_lt (nat_cmp p.start q.start)

ties_are : (n : ℕ) (q : Placed) → ties lower (record no_edit { start = n }) q ≡ (n == q.start)
ties_are n q = grind (arith, common_steps, lt-ltb, ne_eqb, le-ltb, eq-eqb, cases_lt)

module _ (old : List ℕ) where
  abbrev all_of : List Placed → List LocatedEdit
  all_of placed = map (located_of old) placed

  places_less : (low high : ℕ) → IsPlace old low → IsPlace old high → low < high
      → index_of old low < index_of old high
  places_less low high a b less =
      ⊎_elim
      (λ (l : a.0 < b.0). omega (arith, at_index old low a, at_index old high b))
      (λ (l : b.0 ≤ a.0). absurd (omega (arith, place_rises old b.0 a.0 l a.1, a.3, b.3)))
      (cases_lt a.0 b.0)

  stand_apart : (low : ℕ) → IsPlace old low → (ps : List Placed) → AllByRecursion (Lies old) ps → AreApart low ps
      → StandApart old (index_of old low) (all_of ps)
  stand_apart low at [] all apart = (at_within old low at, at_whole old low at)
  stand_apart low at (p ∷ ps) all apart = (
    index_rises old low p.start apart.0,
    index_rises old p.start p.stop all.0.order,
    at_whole old low at,
    at_whole old p.start all.0.at_start,
    stand_apart p.stop all.0.at_stop ps all.1 apart.1,
  )

  -- the same edits, sorted
  module _ (units : ℕ → ℕ) (edits : List TextEdit) (placed ordered : List Placed)
      (at : ArePlaced units old edits [] placed) (order : IsInOrder placed ordered) where
    pub located_is : located units old 0 edits ≡ Ok (all_of placed)
    located_is = at.at ∙ ap (λ (es : List LocatedEdit). Ok es) (append-nil (all_of placed))

    lie : All (Lies old) ordered
    lie = All-permutation (Lies old) placed ordered order.same at.lie

    lie_placed : AllByRecursion (Lies old) placed
    lie_placed = recursion_from_All (Lies old) placed at.lie

    lie_sorted : AllByRecursion (Lies old) ordered
    lie_sorted = recursion_from_All (Lies old) ordered lie

    starts_stay : (n : ℕ) → filter (starts_at n) ordered ≡ filter (starts_at n) placed
    starts_stay n =
        sym (filter_agree (ties lower (record no_edit { start = n })) (starts_at n) (ties_are n) ordered)
        ∙ (order.stable (record no_edit { start = n })
        ∙ filter_agree (ties lower (record no_edit { start = n })) (starts_at n) (ties_are n) placed)

    numbers_rise : (n : ℕ) → AllPairs (λ (p q : Placed). p.number < q.number) (filter (starts_at n) ordered)
    numbers_rise n =
        subst (AllPairs (λ (p q : Placed). p.number < q.number)) (sym (starts_stay n))
        (AllPairs-filter (λ (p q : Placed). p.number < q.number) (starts_at n) placed
        (λ i j d less within. omega (arith, at.numbered i d (omega arith), at.numbered j d within)))

    before_at : (i j : ℕ) → i < j → j < length ordered → ComesBefore (located_of old (get_or ordered i no_edit))
        (located_of old (get_or ordered j no_edit))
    before_at i j less within =
        let p : Placed = get_or ordered i no_edit in
        let q : Placed = get_or ordered j no_edit in
        ⊎_elim
        (λ (l : p.start < q.start). inl (places_less p.start q.start (lie i no_edit (omega arith)).at_start
        (lie j no_edit within).at_start l))
        (λ (l : q.start ≤ p.start).
        let up = IsNonDecreasingBy-from_sort (λ (e : Placed). e.start) ordered order.sorted in
        let e : p.start ≡ q.start = omega (arith, up i j no_edit (omega arith) within) in
        inr (
          ap (index_of old) e,
          unfiltered (λ (x y : Placed). x.number < y.number) (starts_at p.start) ordered
              (numbers_rise p.start) i j no_edit less within (eq-eqb p.start p.start refl) (eq-eqb p.start q.start e),
        ))
        (cases_lt p.start q.start)

    long : length (all_of ordered) ≡ length ordered
    long = length-map ordered (located_of old)

    in_turn : AllPairs ComesBefore (all_of ordered)
    in_turn i j d less within =
        rw (
          get_or-map (located_of old) ordered i no_edit d (omega (arith, long)),
          get_or-map (located_of old) ordered j no_edit d (omega (arith, long)),
        )
        (before_at i j less (omega (arith, long)))

    same_edits : IsPermutation (all_of placed) (all_of ordered)
    same_edits = IsPermutation-map (located_of old) placed ordered order.same

    to_ordered : (x : LocatedEdit) → Contains (all_of placed) x → Contains (all_of ordered) x
    to_ordered x has = Contains-permutation (all_of placed) (all_of ordered) x same_edits has

    to_placed : (x : LocatedEdit) → Contains (all_of ordered) x → Contains (all_of placed) x
    to_placed x has = Contains-permutation (all_of ordered) (all_of placed) x
        (IsPermutation-sym (all_of placed) (all_of ordered) same_edits) has

    none_overlaps : AreApart 0 ordered → NoneOverlap (all_of placed)
    none_overlaps apart first second has_one has_other =
        none_overlap (all_of ordered) in_turn
        (stops_in_order old (index_of old 0) (all_of ordered) (stand_apart 0 (at_first old) ordered lie_sorted apart))
        first second (to_ordered first has_one) (to_ordered second has_other)

    located_at : (k : ℕ) (p : Placed) → k < length ordered → get_or ordered k p ≡ p
        → get_or (all_of ordered) k (located_of old p) ≡ located_of old p
    located_at k p within is =
        get_or-map (located_of old) ordered k p (located_of old p) within ∙ ap (located_of old) is

    lies_at : (k : ℕ) (p : Placed) → k < length ordered → get_or ordered k p ≡ p → Lies old p
    lies_at k p within is = subst (Lies old) is (lie k p within)

    pub overlap_by_indexes : (fault : TextEditFault) → DoOverlap ordered fault → EditsOverlap units old edits fault
    overlap_by_indexes fault over =
        let first : LocatedEdit = located_of old over.first in
        let second : LocatedEdit = located_of old over.second in
        let k : ℕ = over.index in
        let low : k < length ordered = omega (arith, over.within) in
        let a : get_or (all_of ordered) k first ≡ first = located_at k over.first low over.first_is in
        let b = located_at (k + 1) over.second over.within over.second_is in
        let a_in : k < length (all_of ordered) = omega (arith, long) in
        let b_in : k + 1 < length (all_of ordered) = omega (arith, long, over.within) in
        record {
          all = all_of placed;
          at = located_is;
          first = first;
          second = second;
          has_first = to_placed first (k, a_in, a);
          has_second = to_placed second (k + 1, b_in, b);
          order = rw (a, get_or_default (all_of ordered) (k + 1) first second b_in ∙ b) at
              (in_turn k (k + 1) first (omega arith) b_in);
          none_between = λ other has one two.
              let o : Contains (all_of ordered) other = to_ordered other has in
              omega (
                arith,
                rises (all_of ordered) in_turn first other k o.0 a_in a o.1 o.2 one,
                rises (all_of ordered) in_turn other second o.0 (k + 1) o.1 o.2 b_in b two,
              );
          over = places_less over.second.start over.first.stop
              (lies_at (k + 1) over.second over.within over.second_is).at_start
              (lies_at k over.first low over.first_is).at_stop over.over;
          error = over.error;
        }

    -- ---- what is left

    start_is : (i : ℕ) → i ≤ length old → (p : Placed) → Lies old p
        → (index_of old p.start == i) ≡ (place_of old i == p.start)
    start_is i within p lies = grind (arith, common_steps, at_index, eq-eqb, ne_eqb, index_of-place, cases_eq)

    filter_located : (i : ℕ) → i ≤ length old → (ps : List Placed) → AllByRecursion (Lies old) ps
        → filter (λ (e : LocatedEdit). e.start == i) (all_of ps) ≡ all_of (filter (starts_at (place_of old i)) ps)
    filter_located i within [] all = refl
    filter_located i within (p ∷ ps) all =
        grind (arith, common_steps, cases_Bool, (start_is i within p all.0), (filter_located i within ps all.1))

    new_same : (i : ℕ) → i ≤ length old → new_at (all_of placed) i ≡ new_at (all_of ordered) i
    new_same i within = grind (arith, common_steps, flat_map, filter_located, lie_placed, starts_stay, lie_sorted)

    taken_same : (i : ℕ) → is_taken_out (all_of placed) i ≡ is_taken_out (all_of ordered) i
    taken_same i = grind (arith, common_steps, list_any-IsPermutation, nat_le, nat_lt, same_edits)

    left_same : items_left (all_of placed) (length old) ≡ items_left (all_of ordered) (length old)
    left_same =
        ap₂ (λ (x y : List Item). x ++ y)
        (agree (left_at (all_of placed)) (left_at (all_of ordered)) 0 (length old)
        (λ i from to. ap₂ (at_one i) (new_same i (omega arith)) (taken_same i)))
        (ap (map New) (new_same (length old) (omega arith)))

module _ (before : List ℕ) (utf8 : IsUtf8 before) where
  old_row : (from to : ℕ) → items_of (chars before) (old_parts from to)
      ≡ map Old (numbers_from (index_of (chars before) from) (index_of (chars before) to - index_of (chars before)
      from))
  old_row from to = grind (arith, common_steps, nat_lt, append-nil, index_rises, ltb-false, cases_Bool)

  parts_by_indexes : (low : ℕ) (ps : List Placed) → AllByRecursion (Lies (chars before)) ps
      → items_of (chars before) (parts_left (length before) low ps)
      ≡ left_from (length (chars before)) (index_of (chars before) low) (all_of (chars before) ps)
  parts_by_indexes low [] all = grind (arith, common_steps, old_row, index_last)
  parts_by_indexes low (p ∷ ps) all =
      grind (arith, common_steps, flat_map-append, ap₂, old_row, new_items, (parts_by_indexes p.stop ps all.1))

  module _ (units : ℕ → ℕ) (edits : List TextEdit) (parts : List Part)
      (left : AreLeftByEdits units before edits parts) where
    abbrev ordered : List LocatedEdit
    ordered = all_of (chars before) left.ordered

    all_lie : AllByRecursion (Lies (chars before)) left.ordered
    all_lie = lie_sorted (chars before) units edits left.placed left.ordered left.at left.order

    stand : StandApart (chars before) 0 ordered
    stand = subst (λ (n : ℕ). StandApart (chars before) n ordered) (index_first (chars before))
        (stand_apart (chars before) 0 (at_first (chars before)) left.ordered all_lie left.apart)

    items_are : items_of (chars before) parts ≡ left_from (length (chars before)) 0 ordered
    items_are = ap (items_of (chars before)) left.are ∙ (parts_by_indexes 0 left.ordered all_lie
        ∙ ap (λ (n : ℕ). left_from (length (chars before)) n ordered) (index_first (chars before)))

    pub parts_are : AreParts before parts
    parts_are = subst (AreParts before) (sym left.are) (left_are before utf8 0 left.ordered (at_first (chars before))
        all_lie)

    pub items_keep : Keeps (chars before) 0 (items_of (chars before) parts)
    items_keep = subst (Keeps (chars before) 0) (sym items_are) (left_keeps (chars before) 0 ordered stand)

    pub batch_by_indexes : ((c : ℕ) → 1 ≤ units c) → (answered : List ContentChange)
        → answered ≡ canonical units (chars before) (items_of (chars before) parts)
        → IsBatchOfEdits units before edits answered
    batch_by_indexes some answered is =
        let all : List LocatedEdit = all_of (chars before) left.placed in
        let items = items_are ∙ (sym (runs_through (chars before) 0 (length (chars before)) ordered stand (omega arith))
        ∙ sym (left_same (chars before) units edits left.placed left.ordered left.at left.order)) in
        record {
          all = all;
          at = located_is (chars before) units edits left.placed left.ordered left.at left.order;
          apart = none_overlaps (chars before) units edits left.placed left.ordered left.at left.order left.apart;
          is = is ∙ ap (canonical units (chars before)) items;
          means = ap (meaning units (chars before)) is
              ∙ ((canonical_makes units some (chars before) (items_of (chars before) parts) items_keep).leaves 0
              ∙ ap (λ (i : List Item). Ok i) items);
        }
