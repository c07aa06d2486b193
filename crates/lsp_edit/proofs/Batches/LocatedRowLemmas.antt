-- Text edits by indexes, each behind the one before it: they don't overlap, and what they leave at each index is the
-- row of what each leaves.
use Rattle.lsp_edit.proofs.Prelude.{ℕ, zero, suc, ◌≡◌, ◌+◌, ◌-◌, ◌<◌, ◌≤◌, Bool, true, false, if◌then◌else◌, List, [], ◌∷◌, ◌++◌, length, map, flat_map, slice_index_or as get_or, refl, sym, ap, ap₂, ◌∙◌, subst, arith, ⊎_elim, inl, append_assoc, append-nil, lt-ltb, le-ltb, le-leb, ne_eqb, eq-eqb, AllByRecursion, All-from_recursion, cases_lt, lt-leb, map-append, flat_map-append, flat_map_single, numbers_from, splits_crlf, Item, Old, New, Keeps, LocatedEdit, new_at, is_taken_out, left_at, ComesBefore, NoneOverlap, common_steps, numbers_split}
use Rattle.std.specs.List.{AllPairs}
use Rattle.std.proofs.lemmas.List.{get_or_default}
use Rattle.std.proofs.lemmas.List.Kept.{AllPairs-cons}
use Rattle.lsp_edit.proofs.Canonical.KeepsLemmas.{keeps_from_lower, new_keeps, row_keeps}

-- Each edit starts where the one before it stops or later, and no end splits a CRLF.
abbrev pub StandApart : List ℕ → ℕ → List LocatedEdit → Type 0
StandApart old low [] = (low ≤ length old) × (splits_crlf old low ≡ false)
StandApart old low (e ∷ es) = (low ≤ e.start) × (e.start ≤ e.stop) × (splits_crlf old low ≡ false)
    × (splits_crlf old e.start ≡ false) × StandApart old e.stop es

stand_within : (old : List ℕ) (low : ℕ) (es : List LocatedEdit) → StandApart old low es → low ≤ length old
stand_within old low [] stand = stand.0
stand_within old low (e ∷ es) stand = omega (arith, stand.0, stand.1, stand_within old e.stop es stand.4)

stand_whole : (old : List ℕ) (low : ℕ) (es : List LocatedEdit) → StandApart old low es → splits_crlf old low ≡ false
stand_whole old low [] stand = stand.1
stand_whole old low (e ∷ es) stand = stand.2

starts_past : (old : List ℕ) (low i : ℕ) (es : List LocatedEdit) → StandApart old low es → i ≤ low
    → AllByRecursion (λ (e : LocatedEdit). i ≤ e.start) es
starts_past old low i [] stand order = tt
starts_past old low i (e ∷ es) stand order =
    (omega (arith, stand.0), starts_past old e.stop i es stand.4 (omega (arith, stand.0, stand.1)))

pub stops_in_order : (old : List ℕ) (low : ℕ) (es : List LocatedEdit) → StandApart old low es
    → AllPairs (λ (e f : LocatedEdit). e.stop ≤ f.start) es
stops_in_order old low [] stand = λ i j d less within. absurd (omega arith)
stops_in_order old low (e ∷ es) stand =
    AllPairs-cons (λ (a b : LocatedEdit). a.stop ≤ b.start) e es
    (All-from_recursion (λ (f : LocatedEdit). e.stop ≤ f.start) es
    (starts_past old e.stop e.stop es stand.4 (omega arith))) (stops_in_order old e.stop es stand.4)

-- ---- edits that come one before the other

not_both : (first second : LocatedEdit) → ComesBefore first second → ComesBefore second first → ⊥
not_both first second a b = grind (arith, common_steps)

module _ (es : List LocatedEdit) (turn : AllPairs ComesBefore es) where
  -- The indexes of two edits are in their order.
  pub rises : (first second : LocatedEdit) (i j : ℕ) → i < length es → get_or es i first ≡ first → j < length es
      → get_or es j second ≡ second → ComesBefore first second → i < j
  rises first second i j i_within i_is j_within j_is before =
      ⊎_elim
      (λ (less : i < j). less)
      (λ (order : j ≤ i). absurd
      (let there : get_or es j first ≡ second = get_or_default es j first second j_within ∙ j_is in
      ⊎_elim
      (λ (less : j < i). not_both first second before (rw (there, i_is) at (turn j i first less i_within)))
      (λ (least : i ≤ j).
      let at : i ≡ j = omega arith in
      let same : first ≡ second = sym i_is ∙ (ap (λ (k : ℕ). get_or es k first) at ∙ there) in
      let own : ComesBefore first first = subst (ComesBefore first) (sym same) before in
      not_both first first own own)
      (cases_lt j i)))
      (cases_lt i j)

  pub none_overlap : AllPairs (λ (e f : LocatedEdit). e.stop ≤ f.start) es → NoneOverlap es
  none_overlap apart first second a b before =
      let there : get_or es b.0 first ≡ second = get_or_default es b.0 first second b.1 ∙ b.2 in
      rw (a.2, there) at (apart a.0 b.0 first (rises first second a.0 b.0 a.1 a.2 b.1 b.2 before) b.1)

-- ---- the items at each index

nothing_there : (old : List ℕ) (low i : ℕ) (es : List LocatedEdit) → StandApart old low es → i < low
    → (new_at es i ≡ []) × (is_taken_out es i ≡ false)
nothing_there old low i [] stand less = (refl, refl)
nothing_there old low i (e ∷ es) stand less =
    let rest = nothing_there old e.stop i es stand.4 (omega (arith, stand.0, stand.1)) in (
      rw (ne_eqb e.start i (λ s. omega (arith, stand.0))) rest.0,
      rw (lt-leb e.start i (omega (arith, stand.0))) rest.1,
    )

new_skips : (e : LocatedEdit) (es : List LocatedEdit) (i : ℕ) → (e.start ≡ i → ⊥) → new_at (e ∷ es) i ≡ new_at es i
new_skips e es i ne = rw (ne_eqb e.start i ne) refl

new_joins : (e : LocatedEdit) (es : List LocatedEdit) (i : ℕ) → e.start ≡ i → new_at (e ∷ es) i ≡ e.text ++ new_at es i
new_joins e es i at = rw (eq-eqb e.start i at) refl

taken_skips : (e : LocatedEdit) (es : List LocatedEdit) (i : ℕ) → e.start ≤ i → e.stop ≤ i
    → is_taken_out (e ∷ es) i ≡ is_taken_out es i
taken_skips e es i from past = rw (le-leb e.start i from, le-ltb i e.stop past) refl

taken_here : (e : LocatedEdit) (es : List LocatedEdit) (i : ℕ) → e.start ≤ i → i < e.stop
    → is_taken_out (e ∷ es) i ≡ true
taken_here e es i from within = rw (le-leb e.start i from, lt-ltb i e.stop within) refl

-- What edits in order leave, which stand behind one another: the old text between them, and their texts.
abbrev pub left_from : ℕ → ℕ → List LocatedEdit → List Item
left_from len low [] = map Old (numbers_from low (len - low))
left_from len low (e ∷ es)
    = map Old (numbers_from low (e.start - low)) ++ (map New e.text ++ left_from len e.stop es)

-- how what is left at an index is written
abbrev pub at_one : ℕ → List ℕ → Bool → List Item
at_one i new taken = map New new ++ (if taken then [] else Old i ∷ [])

-- ---- rows of indexes

pub agree : (f g : ℕ → List Item) (low count : ℕ) → ((i : ℕ) → low ≤ i → i < low + count → f i ≡ g i)
    → flat_map f (numbers_from low count) ≡ flat_map g (numbers_from low count)
agree f g low zero same = refl
agree f g low (suc count) same =
    ap₂ (λ (x y : List Item). x ++ y) (same low (omega arith) (omega arith))
    (agree f g (suc low) count (λ i from to. same i (omega arith) (omega arith)))

abbrev nothing : ℕ → List Item
nothing i = []

none_in : (low count : ℕ) → flat_map nothing (numbers_from low count) ≡ []
none_in low zero = refl
none_in low (suc count) = none_in (suc low) count

split_row : (f : ℕ → List Item) (low a rest all : ℕ) → all ≡ a + rest → flat_map f (numbers_from low all)
    ≡ flat_map f (numbers_from low a) ++ flat_map f (numbers_from (low + a) rest)
split_row f low a rest all is =
    ap (λ (n : ℕ). flat_map f (numbers_from low n)) is
    ∙ (ap (flat_map f) (numbers_split low a rest) ∙ flat_map-append f (numbers_from low a) (numbers_from
    (low + a) rest))

run_keeps : (old : List ℕ) (low count : ℕ) (items : List Item) → low + count ≤ length old
    → Keeps old (low + count) items → Keeps old low (map Old (numbers_from low count) ++ items)
run_keeps old low zero items within k = let e : low + zero ≡ low = omega arith in
    subst (λ (n : ℕ). Keeps old n items) e k
run_keeps old low (suc count) items within k =
    let e : low + suc count ≡ suc low + count = omega arith in (
      omega arith,
      omega arith,
      inl refl,
      run_keeps old (suc low) count items (omega arith) (subst (λ (n : ℕ). Keeps old n items) e k),
    )

pub left_keeps : (old : List ℕ) (low : ℕ) (es : List LocatedEdit) → StandApart old low es
    → Keeps old low (left_from (length old) low es)
left_keeps old low [] stand = row_keeps old low (length old - low) (omega (arith, stand.0))
left_keeps old low (e ∷ es) stand =
    let n : e.start ≡ low + (e.start - low) = omega (arith, stand.0) in
    let rest = new_keeps old e.start e.text (left_from (length old) e.stop es) stand.3
    (keeps_from_lower old e.start e.stop (left_from (length old) e.stop es) stand.1 stand.3
    (stand_whole old e.stop es stand.4) (left_keeps old e.stop es stand.4)) in
    run_keeps old low (e.start - low) (map New e.text ++ left_from (length old) e.stop es)
    (omega (arith, n, stand.1, stand_within old e.stop es stand.4))
    (subst (λ (k : ℕ). Keeps old k (map New e.text ++ left_from (length old) e.stop es)) n rest)

module _ (old : List ℕ) where
  -- What edits leave at indexes in a row, and at the end.
  abbrev run : List LocatedEdit → ℕ → ℕ → List Item
  run es low count = flat_map (left_at es) (numbers_from low count) ++ map New (new_at es (length old))

  from_start : (e : LocatedEdit) (es : List LocatedEdit) (count rest : ℕ) → e.start + count ≡ length old
      → e.stop + rest ≡ length old → e.start ≤ e.stop → StandApart old e.stop es
      → run (e ∷ es) e.start count ≡ map New e.text ++ run es e.stop rest
  from_start e es zero rest is end order stand = grind (arith, common_steps, new_joins, map-append)
  from_start e es (suc count) rest is end order stand =
      ⊎_elim
      (λ (less : e.start < e.stop).
      let none = nothing_there old e.stop e.start es stand less in
      let here : left_at (e ∷ es) e.start ≡ map New e.text ++ [] =
      ap₂ (at_one e.start) (new_joins e es e.start refl ∙ (ap (λ (t : List ℕ). e.text ++ t) none.0 ∙ append-nil e.text))
      (taken_here e es e.start (omega arith) less) in
      let stop : suc e.start + (e.stop - suc e.start) ≡ e.stop = omega arith in
      let rest_of : flat_map (left_at (e ∷ es)) (numbers_from (suc e.start) count)
      ≡ flat_map (left_at es) (numbers_from e.stop rest) =
      split_row (left_at (e ∷ es)) (suc e.start) (e.stop - suc e.start) rest count (omega arith)
      ∙ ap₂ (λ (x y : List Item). x ++ y)
      (agree (left_at (e ∷ es)) nothing (suc e.start) (e.stop - suc e.start) (λ i from to.
      ap₂ (at_one i) (new_skips e es i (λ s. omega arith) ∙ (nothing_there old e.stop i es stand (omega arith)).0)
      (taken_here e es i (omega arith) (omega arith)))
      ∙ none_in (suc e.start) (e.stop - suc e.start))
      (ap (λ (n : ℕ). flat_map (left_at (e ∷ es)) (numbers_from n rest)) stop ∙ past e.stop rest less (omega arith)) in
      ap₂ (λ (x y : List Item). x ++ y) (ap₂ (λ (x y : List Item). x ++ y) (here ∙ append-nil (map New e.text)) rest_of)
      (ap (map New) (new_skips e es (length old) (λ s. omega arith)))
      ∙ append_assoc (map New e.text) (flat_map (left_at es) (numbers_from e.stop rest))
      (map New (new_at es (length old))))
      (λ (none : e.stop ≤ e.start).
      let s : e.start ≡ e.stop = omega arith in
      let none_before : e.stop ≤ suc e.start = omega arith in
      let r : suc count ≡ rest = omega arith in
      let here : left_at (e ∷ es) e.start ≡ map New e.text ++ left_at es e.start =
      grind (arith, common_steps, ap₂, new_joins, taken_skips, map-append, append_assoc) in
      let rest_of = past (suc e.start) count (omega arith) none_before in
      let regroup : ((map New e.text ++ left_at es e.start) ++ flat_map (left_at es) (numbers_from (suc e.start) count))
      ++ map New (new_at es (length old)) ≡ map New e.text ++ run es e.start (suc count) = simp append_assoc in
      ap₂ (λ (x y : List Item). x ++ y) (ap₂ (λ (x y : List Item). x ++ y) here rest_of)
      (ap (map New) (new_skips e es (length old) (λ z. omega arith)))
      ∙ (regroup ∙ ap₂ (λ (m n : ℕ). map New e.text ++ run es m n) s r))
      (cases_lt e.start e.stop)
    where
      past : (low more : ℕ) → e.start < low → e.stop ≤ low → flat_map (left_at (e ∷ es)) (numbers_from low more)
          ≡ flat_map (left_at es) (numbers_from low more)
      past low more from stop =
          agree (left_at (e ∷ es)) (left_at es) low more (λ i least to. ap₂ (at_one i)
          (new_skips e es i (λ s. omega arith)) (taken_skips e es i (omega arith) (omega arith)))

  pub runs_through : (low count : ℕ) (es : List LocatedEdit) → StandApart old low es → low + count ≡ length old
      → run es low count ≡ left_from (length old) low es
  runs_through low count [] stand end =
      let c : count ≡ length old - low = omega arith in
      append-nil (flat_map (left_at []) (numbers_from low count))
      ∙ (flat_map_single Old (numbers_from low count) ∙ ap (λ (n : ℕ). map Old (numbers_from low n)) c)
  runs_through low count (e ∷ es) stand end =
      let within : e.stop ≤ length old = stand_within old e.stop es stand.4 in
      let n : low + (e.start - low) ≡ e.start = omega (arith, stand.0) in
      let row : List ℕ = numbers_from low (e.start - low) in
      let front : flat_map (left_at (e ∷ es)) row ≡ map Old row =
      agree (left_at (e ∷ es)) (λ (i : ℕ). Old i ∷ []) low (e.start - low) (λ i from to. alone i (omega arith))
      ∙ flat_map_single Old row in
      let rest : run (e ∷ es) e.start (length old - e.start) ≡ map New e.text ++ left_from (length old) e.stop es =
      from_start e es (length old - e.start) (length old - e.stop) (omega (arith, stand.1)) (omega arith) stand.1
      stand.4 ∙ ap (λ (r : List Item). map New e.text ++ r)
      (runs_through e.stop (length old - e.stop) es stand.4 (omega arith)) in
      ap (λ (r : List Item). r ++ map New (new_at (e ∷ es) (length old)))
      (split_row (left_at (e ∷ es)) low (e.start - low) (length old - e.start) count (omega (arith, stand.1)))
      ∙ (append_assoc (flat_map (left_at (e ∷ es)) row)
      (flat_map (left_at (e ∷ es)) (numbers_from (low + (e.start - low)) (length old - e.start)))
      (map New (new_at (e ∷ es) (length old)))
      ∙ ap₂ (λ (x y : List Item). x ++ y) front
      (ap (λ (m : ℕ). run (e ∷ es) m (length old - e.start)) n ∙ rest))
    where
      alone : (i : ℕ) → i < e.start → left_at (e ∷ es) i ≡ Old i ∷ []
      alone i less = let none = nothing_there old e.start i (e ∷ es) (omega arith, stand.1, stand.3, stand.3, stand.4)
          less in ap₂ (at_one i) none.0 none.1
