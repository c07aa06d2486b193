-- Parts that a walk passed, and those that it has before it.
use Rattle.lsp_edit.proofs.Prelude.{ℕ, zero, suc, ◌≡◌, ◌+◌, ◌-◌, ◌<◌, ◌≤◌, List, [], ◌∷◌, ◌++◌, length, take, drop, slice_index_or as get_or, ap, ◌∙◌, subst, arith, append_assoc, take_all, lt-ltb, le-ltb, ne_eqb, cases_lt, length-drop, map-append, take_more, IsCharBoundary-end, Part, OldPart, NewPart, part_of, parts_of, part_len, AreBefore, AreOrdered, EndAfter, IsFirstCut, first_front, front_part, front_parts, back_parts, IsOrdered, IsCutAt, AreCut, ArePassed, Span, common_steps}
use Rattle.lsp_edit.proofs.Parts.PartLemmas.{fronts_none}

pub none_passed : (parts : List Part) → ArePassed parts parts 0 0
none_passed parts = record {
  within = omega arith;
  same = λ place low. ap (back_parts parts) (omega arith);
  cut = λ place low c. subst (AreCut parts) (omega arith) c;
}

pub passed_later : (parts rest : List Part) (passed low high : ℕ) → low ≤ high → ArePassed parts rest passed low
    → ArePassed parts rest passed high
passed_later parts rest passed low high order are = record {
  within = omega (arith, are.within);
  same = λ place h. are.same place (omega arith);
  cut = λ place h. are.cut place (omega arith);
}

-- one part more
pub one_passed : (parts rest : List Part) (passed low : ℕ) (part : Part) (more : List Part) → rest ≡ part ∷ more
    → passed + part_len part ≤ low → ArePassed parts rest passed low → ArePassed parts more (passed + part_len part) low
one_passed parts rest passed low part more is fits are = record {
  within = fits;
  same = grind (arith, common_steps, le-ltb);
  cut = grind (arith, common_steps);
}

pub span_passed : (spans : List Span) (index : ℕ) (default : Span) (passed low len : ℕ) → index < length spans
    → len ≡ part_len (part_of (get_or spans index default)) → passed + len ≤ low
    → ArePassed (parts_of spans) (parts_of (drop index spans)) passed low
    → ArePassed (parts_of spans) (parts_of (drop (index + 1) spans)) (passed + len) low
span_passed spans index default passed low len within is fits are = grind (arith, common_steps, one_passed)

pub rest_all : (spans : List Span) (first : ℕ) → take (length spans - first) (drop first spans) ≡ drop first spans
rest_all spans first = take_all (length spans - first) (drop first spans) (omega (arith, length-drop first spans))

pub drop_ordered : (spans : List Span) (count : ℕ) → AreOrdered (parts_of spans)
    → AreOrdered (parts_of (drop count spans))
drop_ordered spans zero ordered = ordered
drop_ordered [] (suc count) ordered = tt
drop_ordered (span ∷ spans) (suc count) ordered = drop_ordered spans count ordered.1

-- How far parts were passed on the way to a place, and what stands before them.
pub record Passing (parts front rest : List Part) (passed low : ℕ) : Type 0 where
  pub are : ArePassed parts rest passed low
  pub before : AreBefore parts front rest passed low
  pub ordered : AreOrdered rest

pub passing_begins : (parts : List Part) (low : ℕ) → AreOrdered parts → Passing parts [] parts 0 low
passing_begins parts low ordered = record {
  are = passed_later parts parts 0 0 low (omega arith) (none_passed parts);
  before = λ place h. ap (front_parts parts) (omega arith);
  ordered = ordered;
}

passing_on : (parts front rest : List Part) (passed low : ℕ) (part : Part) (more : List Part) → rest ≡ part ∷ more
    → passed + part_len part ≤ low → Passing parts front rest passed low → Passing parts (front ++ part ∷ []) more
    (passed + part_len part) low
passing_on parts front rest passed low part more is fits p = record {
  are = one_passed parts rest passed low part more is fits p.are;
  before = grind (arith, common_steps, ne_eqb, le-ltb, append_assoc);
  ordered = (subst AreOrdered is p.ordered).1;
}

pub span_passing : (spans : List Span) (index : ℕ) (default : Span) (passed low len : ℕ) → index < length spans
    → len ≡ part_len (part_of (get_or spans index default)) → passed + len ≤ low
    → Passing (parts_of spans) (parts_of (take index spans)) (parts_of (drop index spans)) passed low
    → Passing (parts_of spans) (parts_of (take (index + 1) spans)) (parts_of (drop (index + 1) spans)) (passed + len)
    low
span_passing spans index default passed low len within is fits p =
    grind (arith, common_steps, take_more, map-append, passing_on)

pub first_ordered : (rest : List Part) (part : Part) (more : List Part) → rest ≡ part ∷ more → AreOrdered rest
    → IsOrdered part
first_ordered rest part more is ordered = (subst AreOrdered is ordered).0

-- A part cut at its end is the part itself.
front_whole : (part : Part) → IsOrdered part → front_part part (part_len part) ≡ part
front_whole (OldPart from to) order = let e : from + (to - from) ≡ to = omega arith in ap (OldPart from) e
front_whole (NewPart bytes) order = ap NewPart (take_all (length bytes) bytes (omega arith))

cut_end : (part : Part) → IsOrdered part → IsCutAt part (part_len part)
cut_end (OldPart from to) order = (order, omega arith)
cut_end (NewPart bytes) order = IsCharBoundary-end bytes

cut_to_end : (part : Part) (parts : List Part) (place : ℕ) → AreCut (part ∷ parts) place → place ≤ part_len part
    → IsCutAt part place
cut_to_end part parts place cut fits = grind (arith, common_steps, cut_end, cases_lt)

-- The first parts, up to a place that lies behind those passed.
pub record AreEnded (parts front rest : List Part) (passed place : ℕ) : Type 0 where
  pub front_is : front_parts parts place ≡ front ++ first_front rest (place - passed)
  pub cut : IsFirstCut rest (place - passed)

pub ended_behind : (parts front rest : List Part) (passed place : ℕ) → 0 < place
    → ArePassed parts rest passed (place - 1) → AreBefore parts front rest passed (place - 1)
    → EndAfter rest ((place - 1) - passed) → AreCut parts place → AreEnded parts front rest passed place
ended_behind parts front rest passed place some are before rest_after cut =
    by_first rest (before place (omega arith)) (are.cut place (omega arith) cut) rest_after
  where
    by_first : (ps : List Part) → front_parts parts place ≡ front ++ front_parts ps (place - passed)
        → AreCut ps (place - passed) → EndAfter ps ((place - 1) - passed) → AreEnded parts front ps passed place
    by_first [] is c b = record { front_is = is; cut = tt }
    by_first (part ∷ ps) is c b =
        let fits : place - passed ≤ part_len part = omega (arith, b, are.within) in
        let not_first : place - passed ≡ 0 → ⊥ = λ z. omega (arith, are.within) in
        record {
          front_is = is ∙ ap (λ (fs : List Part). front ++ fs) (grind (
            arith,
            common_steps,
            ne_eqb,
            lt-ltb,
            le-ltb,
            cases_lt,
            fronts_none,
            (front_whole part c.0),
          ));
          cut = cut_to_end part ps (place - passed) c fits;
        }

-- parts passed on the way among those that are left
pub more_passed : (parts rest left : List Part) (passed on low from : ℕ) → low ≤ from → ArePassed parts rest passed low
    → ArePassed rest left on (from - passed) → ArePassed parts left (passed + on) from
more_passed parts rest left passed on low from order are were = record {
  within = omega (arith, are.within, were.within);
  same = grind (arith, common_steps);
  cut = grind (arith, common_steps);
}
