-- Parts that are split at a byte offset: those before it, and those after it.
use Rattle.lsp_edit.proofs.Prelude.{ℕ, ◌≡◌, ◌+◌, ◌-◌, ◌<◌, ◌≤◌, true, List, [], ◌∷◌, ◌++◌, length, map, take, drop, reverse, sum_by, sum_by-cons, sum_by_push, refl, sym, ap, ap₂, ◌∙◌, subst, arith, append_assoc, append-nil, reverse-append, drop-drop, length-drop, length-take-le, nil_from_length, cases_Bool, drop-map, le-ltb, lt-ltb, ne_eqb, chars, IsUtf8, is_utf8, map-append, flat_map-append, place_of, place_add, character_of, Item, New, text_of, Span, Part, OldPart, NewPart, part_of, parts_of, part_len, items_in, items_of, AreParts, NoneEmpty, new_parts, back_part, back_parts, front_part, front_parts, IsOrdered, IsCutAt, AreCut, HasPassed, IsSplitAt, SplitSpans, after_split, before_split, spliced_parts, common_steps, sum_by-append, take-append-drop, take_more, slice_index_or as get_or}
use Rattle.lsp_edit.proofs.Parts.CutPartsLemmas.{AreCutAt, cut_parts, part_some}
use Rattle.lsp_edit.proofs.Parts.PartLemmas.{fronts_none}
use Rattle.lsp_edit.proofs.Parts.PutLemmas.{are_both, new_items}

-- ---- spans in two rows

pub last_part : (old new : List Span) (span : Span) → old ≡ new ++ span ∷ []
    → parts_of old ≡ parts_of new ++ part_of span ∷ []
last_part old new span is = ap parts_of is ∙ map-append part_of new (span ∷ [])

pub first_part : (old new : List Span) (span : Span) → old ≡ new ++ span ∷ []
    → reverse (parts_of old) ≡ part_of span ∷ reverse (parts_of new)
first_part old new span is = ap reverse (last_part old new span is) ∙ reverse-append (parts_of new) (part_of span ∷ [])

-- ---- parts that aren't empty

some_ordered : (part : Part) → 0 < part_len part → IsOrdered part
some_ordered (OldPart from to) some = omega arith
some_ordered (NewPart bytes) some = tt

pub some_split : (front rest : List Part) → NoneEmpty (front ++ rest) → NoneEmpty front × NoneEmpty rest
some_split [] rest some = (tt, some)
some_split (part ∷ front) rest some = let both = some_split front rest some.1 in ((some.0, both.0), both.1)

-- the first after the split, or the last before it
pub first_some_ordered : (parts front rest : List Part) (part : Part) (more : List Part) → front ++ rest ≡ parts
    → rest ≡ part ∷ more → NoneEmpty parts → IsOrdered part
first_some_ordered parts front rest part more all is some =
    some_ordered part (subst NoneEmpty is (some_split front rest (subst NoneEmpty (sym all) some)).1).0

back_none : (part : Part) → back_part part 0 ≡ part
back_none (OldPart from to) = let e : from + 0 ≡ from = omega arith in ap (λ (n : ℕ). OldPart n to) e
back_none (NewPart bytes) = refl

backs_none : (parts : List Part) → NoneEmpty parts → back_parts parts 0 ≡ parts
backs_none [] some = refl
backs_none (part ∷ parts) some = rw (lt-ltb 0 (part_len part) some.0, back_none part) refl

-- ---- parts that are passed whole

pub record ArePast (front rest : List Part) (passed place : ℕ) : Type 0 where
  pub fronts : front_parts (front ++ rest) place ≡ front ++ front_parts rest (place - passed)
  pub backs : back_parts (front ++ rest) place ≡ back_parts rest (place - passed)
  pub cut : AreCut (front ++ rest) place → AreCut rest (place - passed)

pub past : (front rest : List Part) (passed place : ℕ) → NoneEmpty front → passed ≡ sum_by part_len front
    → passed ≤ place → ArePast front rest passed place
past [] rest passed place some is low =
    let e : place ≡ place - passed = omega arith in
    record {
      fronts = ap (front_parts rest) e;
      backs = ap (back_parts rest) e;
      cut = λ c. subst (AreCut rest) e c;
    }
past (part ∷ front) rest passed place some is low =
    let sum = sum_by-cons part_len part front in
    let ih = past front rest (passed - part_len part) (place - part_len part) some.1 (omega (arith, sum))
    (omega arith) in
    let n : (place - part_len part) - (passed - part_len part) ≡ place - passed = omega (arith, sum) in
    let late = ne_eqb place 0 (λ z. omega (arith, sum, some.0)) in
    let whole = le-ltb place (part_len part) (omega (arith, sum)) in
    record {
      fronts = rw (late, whole) (ap (λ (ps : List Part). part ∷ ps) (rw n at ih.fronts));
      backs = rw whole (rw n at ih.backs);
      cut = λ c. rw n at (ih.cut (c.2 (omega (arith, sum))));
    }

-- Parts split at an offset that none of them has inside, or after all.
pub record AreSplit (parts front rest : List Part) (place : ℕ) : Type 0 where
  pub front_is : front ≡ front_parts parts place
  pub back_is : rest ≡ back_parts parts place

module _ (parts front rest : List Part) (passed place : ℕ) (all : front ++ rest ≡ parts) (some : NoneEmpty parts)
    (is : passed ≡ sum_by part_len front) (low : passed ≤ place) where
  both : NoneEmpty front × NoneEmpty rest
  both = some_split front rest (subst NoneEmpty (sym all) some)

  here : ArePast front rest passed place
  here = past front rest passed place both.0 is low

  pub split_between : place ≤ passed → AreSplit parts front rest place
  split_between high =
      let e : place - passed ≡ 0 = omega arith in
      record {
        front_is = sym (ap (λ (ps : List Part). front_parts ps place) (sym all)
            ∙ (here.fronts ∙ (ap (λ (n : ℕ). front ++ front_parts rest n) e
            ∙ (ap (λ (ps : List Part). front ++ ps) (fronts_none rest) ∙ append-nil front))));
        back_is = sym (ap (λ (ps : List Part). back_parts ps place) (sym all)
            ∙ (here.backs ∙ (ap (back_parts rest) e ∙ backs_none rest both.1)));
      }

  pub split_past : rest ≡ [] → AreSplit parts front [] place
  split_past none = record {
    front_is = sym (ap (λ (ps : List Part). front_parts ps place) (sym all)
        ∙ (here.fronts ∙ (ap (λ (ps : List Part). front ++ front_parts ps (place - passed)) none ∙ append-nil front)));
    back_is = sym (ap (λ (ps : List Part). back_parts ps place) (sym all)
        ∙ (here.backs ∙ ap (λ (ps : List Part). back_parts ps (place - passed)) none));
  }

  module _ (part : Part) (more : List Part) (rest_is : rest ≡ part ∷ more) (inside : place - passed < part_len part)
      (less : passed < place) where
    pub split_cut : AreCut parts place → IsCutAt part (place - passed)
    split_cut cut = (subst (λ (ps : List Part). AreCut ps (place - passed)) rest_is
        (here.cut (subst (λ (ps : List Part). AreCut ps place) (sym all) cut))).1 inside

    pub split_inside : AreSplit parts (front ++ front_part part (place - passed) ∷ [])
        (back_part part (place - passed) ∷ more) place
    split_inside =
        let late = ne_eqb (place - passed) 0 (λ z. omega arith) in
        let within = lt-ltb (place - passed) (part_len part) inside in
        record {
          front_is = sym (ap (λ (ps : List Part). front_parts ps place) (sym all)
              ∙ (here.fronts ∙ (ap (λ (ps : List Part). front ++ front_parts ps (place - passed)) rest_is
              ∙ rw (late, within) refl)));
          back_is = sym (ap (λ (ps : List Part). back_parts ps place) (sym all)
              ∙ (here.backs ∙ (ap (λ (ps : List Part). back_parts ps (place - passed)) rest_is ∙ rw within refl)));
        }

-- ---- the spans of a walk

front_long : (part : Part) (count : ℕ) → IsCutAt part count → part_len (front_part part count) ≡ count
front_long (OldPart from to) count cut = omega arith
front_long (NewPart bytes) count cut = length-take-le count bytes cut.0

module _ (split : SplitSpans) (parts : List Part) (is : HasPassed split parts) (some : NoneEmpty parts)
    (left : List Span)
    (span : Span) where
  pub last_ordered : split.front.items ≡ left ++ span ∷ [] → IsOrdered (part_of span)
  last_ordered front_is =
      first_some_ordered parts (parts_of left) (part_of span ∷ after_split split) (part_of span) (after_split split)
      (sym (append_assoc (parts_of left) (part_of span ∷ []) (after_split split))
      ∙ (ap (λ (ps : List Part). ps ++ after_split split) (sym (last_part split.front.items left span front_is))
      ∙ is.parts_are)) refl some

  module _ (back_is : split.back.items ≡ left ++ span ∷ []) where
    rest_is : after_split split ≡ part_of span ∷ reverse (parts_of left)
    rest_is = first_part split.back.items left span back_is

    pub first_ordered : IsOrdered (part_of span)
    first_ordered = first_some_ordered parts (before_split split) (after_split split) (part_of span)
        (reverse (parts_of left)) is.parts_are rest_is some

    module _ (offset : ℕ) (less : split.passed < offset) (inside : offset - split.passed < part_len (part_of span))
      where
        pub cut_at : AreCut parts offset → IsCutAt (part_of span) (offset - split.passed)
        cut_at = split_cut parts (before_split split) (after_split split) split.passed offset is.parts_are some
            is.passed_is (omega arith) (part_of span) (reverse (parts_of left)) rest_is inside less

        pub moved_inside : AreCut parts offset → (last : SplitSpans) (one two : Span)
            → part_of one ≡ front_part (part_of span) (offset - split.passed)
            → part_of two ≡ back_part (part_of span) (offset - split.passed)
            → last.front.items ≡ split.front.items ++ one ∷ [] → last.back.items ≡ left ++ two ∷ []
            → last.passed ≡ offset → IsSplitAt parts offset last
        moved_inside cut last one two one_is two_is front_is two_back passed =
            let at = split_inside parts (before_split split) (after_split split) split.passed offset is.parts_are some
            is.passed_is (omega arith) (part_of span) (reverse (parts_of left)) rest_is inside less in
            let front = last_part last.front.items split.front.items one front_is in
            record {
              front_is = front ∙ (ap (λ (p : Part). before_split split ++ p ∷ []) one_is ∙ at.front_is);
              back_is = first_part last.back.items left two two_back
                  ∙ (ap (λ (p : Part). p ∷ reverse (parts_of left)) two_is ∙ at.back_is);
              passed_is = omega (
                arith,
                passed,
                ap part_len one_is,
                front_long (part_of span) (offset - split.passed) (cut_at cut),
                is.passed_is,
                ap (sum_by part_len) front,
                sum_by_push part_len (before_split split) (part_of one),
              );
            }

module _ (split : SplitSpans) (parts : List Part) (offset : ℕ) (is : HasPassed split parts) (some : NoneEmpty parts)
    (low : split.passed ≤ offset) where
  pub moved_to : offset ≤ split.passed → IsSplitAt parts offset split
  moved_to high =
      let at = split_between parts (before_split split) (after_split split) split.passed offset is.parts_are some
      is.passed_is low high in
      record { front_is = at.front_is; back_is = at.back_is; passed_is = is.passed_is }

  pub moved_past : (next : SplitSpans) → split.back.items ≡ next.back.items ++ [] → length split.back.items ≡ 0
      → next.front.items ≡ split.front.items → next.passed ≡ split.passed → IsSplitAt parts offset next
  moved_past next back_is none same passed =
      let empty : split.back.items ≡ [] = nil_from_length split.back.items none in
      let left : next.back.items ≡ [] = sym (append-nil next.back.items) ∙ (sym back_is ∙ empty) in
      let at = split_past parts (before_split split) (after_split split) split.passed offset is.parts_are some
      is.passed_is low (ap (λ (xs : List Span). reverse (parts_of xs)) empty) in
      let front = ap parts_of same in
      record {
        front_is = front ∙ at.front_is;
        back_is = ap (λ (xs : List Span). reverse (parts_of xs)) left ∙ at.back_is;
        passed_is = passed ∙ (is.passed_is ∙ ap (sum_by part_len) (sym front));
      }

-- ---- the first bytes removed

module _ (old new : List Span) (left : ℕ) (all : List Part) (same : back_parts (reverse (parts_of old)) left ≡ all)
  where
    pub removed_none : old ≡ new ++ [] → length old ≡ 0 → reverse (parts_of new) ≡ all
    removed_none is none =
        let empty : old ≡ [] = nil_from_length old none in
        let e : new ≡ [] = sym (append-nil new) ∙ (sym is ∙ empty) in
        ap (λ (xs : List Span). reverse (parts_of xs)) e
        ∙ (sym (ap (λ (xs : List Span). back_parts (reverse (parts_of xs)) left) empty) ∙ same)

    module _ (span : Span) (is : old ≡ new ++ span ∷ []) where
      here_first : reverse (parts_of old) ≡ part_of span ∷ reverse (parts_of new)
      here_first = first_part old new span is

      module _ (cut : AreCut (reverse (parts_of old)) left) where
        pub here_cut : AreCut (part_of span ∷ reverse (parts_of new)) left
        here_cut = subst (λ (ps : List Part). AreCut ps left) here_first cut

      pub removed_inside : (now : List Span) (one : Span) → now ≡ new ++ one ∷ []
          → part_of one ≡ back_part (part_of span) left → left < part_len (part_of span) → reverse (parts_of now) ≡ all
      removed_inside now one now_is one_is inside =
          first_part now new one now_is ∙ (ap (λ (p : Part). p ∷ reverse (parts_of new)) one_is
          ∙ (sym (ap (λ (ps : List Part). back_parts ps left) here_first
          ∙ rw (lt-ltb left (part_len (part_of span)) inside) refl) ∙ same))

      pub removed_whole : part_len (part_of span) ≤ left
          → back_parts (reverse (parts_of new)) (left - part_len (part_of span)) ≡ all
      removed_whole fits =
          sym (ap (λ (ps : List Part). back_parts ps left) here_first
          ∙ rw (le-ltb left (part_len (part_of span)) fits) refl) ∙ same

-- ---- how many bytes spans have

pub sums_low : (spans : List Span) (index : ℕ) (default : Span) → index < length spans
    → sum_by part_len (parts_of (take index spans)) + part_len (part_of (get_or spans index default))
    ≤ sum_by part_len (parts_of spans)
sums_low spans index default within =
    let front : List Span = take (index + 1) spans in
    let last = ap parts_of (take_more spans index default within)
    ∙ map-append part_of (take index spans) (get_or spans index default ∷ []) in
    omega (
      arith,
      ap (λ (xs : List Span). sum_by part_len (parts_of xs)) (sym (take-append-drop (index + 1) spans)),
      ap (sum_by part_len) (map-append part_of front (drop (index + 1) spans)),
      sum_by-append part_len (parts_of front) (parts_of (drop (index + 1) spans)),
      ap (sum_by part_len) last,
      sum_by_push part_len (parts_of (take index spans)) (part_of (get_or spans index default)),
    )

-- ---- a new text after the split

turned_new : (bytes : List ℕ) → reverse (new_parts bytes) ≡ new_parts bytes
turned_new bytes = grind (arith, common_steps, cases_Bool)

pub pushed_new : (now then : List Span) (bytes : List ℕ) → parts_of now ≡ parts_of then ++ new_parts bytes
    → reverse (parts_of now) ≡ new_parts bytes ++ reverse (parts_of then)
pushed_new now then bytes is =
    ap reverse is ∙ (reverse-append (parts_of then) (new_parts bytes)
    ∙ ap (λ (ps : List Part). ps ++ reverse (parts_of then)) (turned_new bytes))

-- ---- the items of spliced parts

module _ (old : List ℕ) (utf8 : IsUtf8 old) where
  pub none_empty : (parts : List Part) → AreParts old parts → NoneEmpty parts
  none_empty [] are = tt
  none_empty (part ∷ parts) are = (part_some old utf8 part are.0, none_empty parts are.1)

  module _ (parts : List Part) (are : AreParts old parts) (a b start stop : ℕ) (order : a ≤ b)
      (within : b ≤ length (items_of (chars old) parts))
      (start_is : place_of (text_of (chars old) (items_of (chars old) parts)) a ≡ start)
      (stop_is : place_of (text_of (chars old) (items_of (chars old) parts)) b ≡ stop) where
    abbrev items : List Item
    items = items_of (chars old) parts

    abbrev later : List Part
    later = back_parts parts start

    pub cut_start : AreCutAt old utf8 parts a start
    cut_start = subst (AreCutAt old utf8 parts a) start_is (cut_parts old utf8 parts a are (omega arith))

    pub cut_stop : AreCutAt old utf8 later (b - a) (stop - start)
    cut_stop =
        let text = ap (text_of (chars old)) cut_start.back ∙ sym (drop-map (character_of (chars old)) a items) in
        let n : a + (b - a) ≡ b = omega arith in
        let last : place_of (text_of (chars old) items) (a + (b - a)) ≡ stop = rw n stop_is in
        let place : place_of (text_of (chars old) (items_of (chars old) later)) (b - a) ≡ stop - start =
        ap (λ (t : List ℕ). place_of t (b - a)) text
        ∙ omega (arith, place_add (text_of (chars old) items) a (b - a), start_is, last) in
        subst (AreCutAt old utf8 later (b - a)) place
        (cut_parts old utf8 later (b - a) cut_start.back_are
        (omega (arith, ap length cut_start.back, length-drop a items)))

    pub spliced_are : (bytes : List ℕ) → is_utf8 bytes ≡ true
        → (items_of (chars old) (spliced_parts parts start (stop - start) bytes)
        ≡ take a items ++ (map New (chars bytes) ++ drop b items))
        × AreParts old (spliced_parts parts start (stop - start) bytes)
    spliced_are bytes new_utf8 =
        let n = new_items old bytes new_utf8 in
        let front : List Part = front_parts parts start in
        let back : List Part = back_parts later (stop - start) in
        let m : (b - a) + a ≡ b = omega arith in
        let back_is : items_of (chars old) back ≡ drop b items =
        cut_stop.back ∙ (ap (drop (b - a)) cut_start.back
        ∙ (drop-drop (b - a) a items ∙ ap (λ (k : ℕ). drop k items) (omega (arith, m)))) in (
          flat_map-append (items_in (chars old)) front (new_parts bytes ++ back)
              ∙ ap₂ (λ (x y : List Item). x ++ y) cut_start.front
              (flat_map-append (items_in (chars old)) (new_parts bytes) back
              ∙ ap₂ (λ (x y : List Item). x ++ y) n.0 back_is),
          are_both old front (new_parts bytes ++ back) cut_start.front_are
              (are_both old (new_parts bytes) back n.1 cut_stop.back_are),
        )
