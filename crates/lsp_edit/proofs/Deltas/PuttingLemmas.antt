-- Changes of a batch, put one after another into the spans of a text, or by halves.
use Rattle.lsp_edit.proofs.Prelude.{ℕ, suc, ◌≡◌, ◌+◌, ◌<◌, ◌≤◌, List, [], ◌∷◌, ◌++◌, length, map, take, drop, sum_by, sum_by-append, sum_by-cons, refl, sym, ap, ◌∙◌, subst, arith, encode_utf8_all, string_bytes, string_len, drop_all, cases_lt, length-map, map-append, take-append-drop, length-take-le, le-leb, Option, Some, None, Result, Ok, chars, IsUtf8, IsUtf8-string_bytes, is_utf8-from_IsUtf8, chars_from_encodes, encodes-chars, Range, Change, Item, New, plain, text_of, ContentChange, Fault, after_changes, continue_with, items_after, meaning, then_items, AreEndsIn, AreEndsOf, content_change, AreResolved, IsLayer, AreKept, Part, items_of, bytes_of, AreParts, NoneEmpty, new_parts, part_len, old_parts, back_parts, AreCut, spliced_parts, through_parts, common_steps, ◌-◌, ap₂, drop_more, slice_index_or as get_or, AreOrdered}
use Rattle.lsp_edit.proofs.Batches.ComposeLemmas.{text_of-then, then-changed, then-plain, then_means}
use Rattle.lsp_edit.proofs.Canonical.KeepsLemmas.{meaning_keeps}
use Rattle.lsp_edit.proofs.Composing.AppliedLemmas.{AreEnds, AreReplaced, are_ordered, are_replaced, edit_is, ends_told}
use Rattle.lsp_edit.proofs.Composing.EditedLemmas.{plain_text, whole_is}
use Rattle.lsp_edit.proofs.Composing.RoomLemmas.{change_longer, texts_len}
use Rattle.lsp_edit.proofs.Parts.CutLemmas.{part_bytes, part_length}
use Rattle.lsp_edit.proofs.Parts.CutPartsLemmas.{parts_bytes, parts_utf8}
use Rattle.lsp_edit.proofs.Parts.PutLemmas.{new_items}
use Rattle.lsp_edit.proofs.Parts.SplitLemmas.{cut_start, cut_stop, none_empty, spliced_are}
use Rattle.lsp_edit.proofs.Parts.ThroughLemmas.{AreComposed, composed}

-- How far the changes were put: the others complete the batch's meaning, and the ends of their ranges are known.
pub record IsPutting (units : ℕ → ℕ) (before : List ℕ) (meant : Result (List Item) (ℕ × Fault)) (rest : List Change)
    (ends : List (ℕ × ℕ)) (parts : List Part) : Type 0 where
  pub number : ℕ
  pub utf8 : IsUtf8 before
  pub are : AreParts before parts
  pub left : after_changes units (chars before) number (items_of (chars before) parts) (map content_change rest)
      ≡ meant
  pub ends_are : AreEndsOf units (chars before) (items_of (chars before) parts) (map content_change rest) ends

pub putting_begins : (units : ℕ → ℕ) (before : List ℕ) (len : ℕ) (changes : List Change) (ends : List (ℕ × ℕ))
    (parts : List Part) → AreResolved units before len changes ends → parts ≡ old_parts 0 len
    → IsPutting units before (meaning units (chars before) (map content_change changes)) changes ends parts
putting_begins units before len changes ends parts r is =
    let whole = whole_is before r.utf8 in
    rw (is, r.len_is) (record {
      number = 0;
      utf8 = r.utf8;
      are = whole.are;
      left = ap (λ (items : List Item). after_changes units (chars before) 0 items (map content_change changes))
          whole.items;
      ends_are = subst (λ (items : List Item). AreEndsOf units (chars before) items (map content_change changes) ends)
          (sym whole.items) r.ends_are;
    })

pub putting_done : (units : ℕ → ℕ) (before : List ℕ) (meant : Result (List Item) (ℕ × Fault)) (rest : List Change)
    (ends : List (ℕ × ℕ)) (parts : List Part) → rest ≡ [] → IsPutting units before meant rest ends parts
    → IsLayer meant before parts
putting_done units before meant rest ends parts none p = record {
  utf8 = p.utf8;
  are = p.are;
  means = sym (subst (λ (r : List Change). after_changes units (chars before) p.number (items_of (chars before) parts)
      (map content_change r) ≡ meant) none p.left);
}

-- A change of a range can be put: the parts may be cut at its ends.
pub record MayBePut (parts : List Part) (start stop : ℕ) : Type 0 where
  pub some : NoneEmpty parts
  pub order : start ≤ stop
  pub at_start : AreCut parts start
  pub at_stop : AreCut (back_parts parts start) (stop - start)

module _ (units : ℕ → ℕ) (before : List ℕ) (meant : Result (List Item) (ℕ × Fault)) (change : Change)
    (rest more : List Change) (ends : List (ℕ × ℕ)) (done : ℕ) (parts : List Part) (is : rest ≡ change ∷ more)
    (p : IsPutting units before meant rest (drop done ends) parts) where
  abbrev had : List Item
  had = items_of (chars before) parts

  abbrev new : List ℕ
  new = string_bytes change.text

  abbrev own_end : ℕ × ℕ
  own_end = get_or ends done (0, 0)

  some_left : AreEndsOf units (chars before) had (content_change change ∷ map content_change more) (drop done ends)
  some_left = rw is at p.ends_are

  pub putting_bounds : done < length ends
  putting_bounds = grind (arith, common_steps, drop_all, cases_lt, some_left)

  here : AreEndsOf units (chars before) had (content_change change ∷ map content_change more)
      (own_end ∷ drop (done + 1) ends)
  here = subst (AreEndsOf units (chars before) had (content_change change ∷ map content_change more))
      (drop_more ends done (0, 0) putting_bounds) some_left

  next_of : (next : List Part) → AreParts before next
      → items_after units (chars before) had (content_change change) ≡ Ok (items_of (chars before) next)
      → IsPutting units before meant more (drop (done + 1) ends) next
  next_of next are made =
      let here_left : continue_with (λ items. after_changes units (chars before) (suc p.number) items
      (map content_change more)) p.number (items_after units (chars before) had (content_change change)) ≡ meant =
      rw is at p.left in
      record {
        number = suc p.number;
        utf8 = p.utf8;
        are = are;
        left = rw made at here_left;
        ends_are = here.1 (items_of (chars before) next) made;
      }

  pub putting_whole : change.range ≡ None → (next : List Part) (bytes : List ℕ) → next ≡ new_parts bytes → bytes ≡ new
      → IsPutting units before meant more (drop (done + 1) ends) next
  putting_whole none next bytes next_is bytes_are =
      let n = new_items before new (is_utf8-from_IsUtf8 new (IsUtf8-string_bytes change.text)) in
      rw (next_is, bytes_are) (next_of (new_parts new) n.1 (rw none (ap (λ (i : List Item). Ok i) (sym n.0))))

  module _ (range : Range) (ranged : change.range ≡ Some range) where
    replaced : AreReplaced units (chars before) had range new own_end.0 own_end.1
    replaced =
        are_replaced units (chars before) had range new own_end.0 own_end.1
        (subst IsUtf8 (parts_bytes before p.utf8 parts p.are) (parts_utf8 before p.utf8 parts p.are))
        (IsUtf8-string_bytes change.text) (here.0 range ranged)

    pub may_be_put : MayBePut parts own_end.0 own_end.1
    may_be_put =
        let e = replaced.ends in
        record {
          some = none_empty before p.utf8 parts p.are;
          order = replaced.order;
          at_start = (cut_start before p.utf8 parts p.are e.low e.high own_end.0 own_end.1 e.order replaced.within
              e.start_is
              e.stop_is).cut;
          at_stop = (cut_stop before p.utf8 parts p.are e.low e.high own_end.0 own_end.1 e.order replaced.within
              e.start_is
              e.stop_is).cut;
        }

    pub putting_range : (next : List Part) (bytes : List ℕ)
        → next ≡ spliced_parts parts own_end.0 (own_end.1 - own_end.0) bytes → bytes ≡ new
        → IsPutting units before meant more (drop (done + 1) ends) next
    putting_range next bytes next_is bytes_are =
        let e = replaced.ends in
        let both = spliced_are before p.utf8 parts p.are e.low e.high own_end.0 own_end.1 e.order replaced.within
        e.start_is
        e.stop_is new (is_utf8-from_IsUtf8 new (IsUtf8-string_bytes change.text)) in
        rw (next_is, bytes_are) (next_of (spliced_parts parts own_end.0 (own_end.1 - own_end.0) new) both.1
        (subst (λ (c : ContentChange). items_after units (chars before) had c
        ≡ Ok (items_of (chars before) (spliced_parts parts own_end.0 (own_end.1 - own_end.0) new)))
        (edit_is change (Some range) new ranged refl)
        (replaced.made ∙ ap (λ (i : List Item). Ok i) (sym both.0))))

-- ---- by halves

-- What changes make of items whose ranges have known ends, and how long their text gets.
pub record EndsMean (units : ℕ → ℕ) (old : List ℕ) (number : ℕ) (items : List Item) (changes : List Change)
    (ends : List (ℕ × ℕ)) : Type 0 where
  pub last : List Item
  pub means : after_changes units old number items (map content_change changes) ≡ Ok last
  pub count : length changes ≤ length ends
  pub longer : length (encode_utf8_all (text_of old last)) ≤ length (encode_utf8_all (text_of old items))
      + texts_len changes

module _ (units : ℕ → ℕ) (old : List ℕ) where
  record HasNext (items : List Item) (change : ContentChange) : Type 0 where
    next : List Item
    is : items_after units old items change ≡ Ok next

  next_by : (items : List Item) (change : ContentChange) (end : ℕ × ℕ)
      → AreEndsIn units (text_of old items) change end → HasNext items change
  next_by items change end are = by_range change.range refl
    where
      by_range : (range : Option Range) → change.range ≡ range → HasNext items change
      by_range None is = record { next = map New change.text; is = rw is refl }
      by_range (Some range) is =
          let e : AreEnds units (text_of old items) range end.0 end.1 = ends_told units (text_of old items) range 0
          end.0 end.1 (are range is) in
          record {
            next = take e.low items ++ (map New change.text ++ drop e.high items);
            is = rw (is, e.low_is, e.high_is, le-leb e.low e.high e.order) refl;
          }

  pub ends_mean : (number : ℕ) (items : List Item) (changes : List Change) (ends : List (ℕ × ℕ))
      → AreEndsOf units old items (map content_change changes) ends → EndsMean units old number items changes ends
  ends_mean number items [] ends are = record { last = items; means = refl; count = omega arith; longer = omega arith }
  ends_mean number items (change ∷ changes) [] are = absurd are
  ends_mean number items (change ∷ changes) (end ∷ ends) are =
      let made = next_by items (content_change change) end are.0 in
      let ih = ends_mean (suc number) made.next changes ends (are.1 made.next made.is) in
      let own = ap length (encodes-chars (string_bytes change.text) (IsUtf8-string_bytes change.text))
      ∙ sym change.text.bytes.ok.0 in
      record {
        last = ih.last;
        means = rw made.is ih.means;
        count = omega (arith, ih.count);
        longer = omega (
          arith,
          ih.longer,
          own,
          change_longer units old items made.next (content_change change) made.is,
          sum_by-cons (λ (c : Change). string_len c.text) change changes,
        );
      }

  pub ends_front : (items : List Item) (first second : List ContentChange) (ends : List (ℕ × ℕ))
      → AreEndsOf units old items (first ++ second) ends
      → AreEndsOf units old items first (take (length first) ends)
  ends_front items [] second ends are = tt
  ends_front items (change ∷ first) second [] are = absurd are
  ends_front items (change ∷ first) second (end ∷ ends) are =
      (are.0, λ next made. ends_front next first second ends (are.1 next made))

  pub ends_back : (number : ℕ) (items middle : List Item) (first second : List ContentChange) (ends : List (ℕ × ℕ))
      → after_changes units old number items first ≡ Ok middle → AreEndsOf units old items (first ++ second) ends
      → AreEndsOf units old middle second (drop (length first) ends)
  ends_back number items middle [] second ends is are =
      let e : items ≡ middle = cc in subst (λ (i : List Item). AreEndsOf units old i second ends) e are
  ends_back number items middle (change ∷ first) second [] is are = absurd are
  ends_back number items middle (change ∷ first) second (end ∷ ends) is are =
      let made = next_by items change end are.0 in
      ends_back (suc number) made.next middle first second ends (rw made.is at is) (are.1 made.next made.is)

  -- The ends are the same over the text that the items leave.
  pub ends_over : (first items : List Item) (batch : List ContentChange) (ends : List (ℕ × ℕ))
      → AreEndsOf units old (then_items first items) batch ends → AreEndsOf units (text_of old first) items batch ends
  ends_over first items [] ends are = tt
  ends_over first items (change ∷ batch) [] are = absurd are
  ends_over first items (change ∷ batch) (end ∷ ends) are = (
    subst (λ (t : List ℕ). AreEndsIn units t change end) (text_of-then old first items) are.0,
    λ next made. ends_over first next batch ends (are.1 (then_items first next)
        (then-changed units old first items next change made)),
  )

parts_long : (old : List ℕ) → IsUtf8 old → (parts : List Part) → AreParts old parts
    → sum_by part_len parts ≡ length (bytes_of old parts)
parts_long old utf8 [] are = refl
parts_long old utf8 (part ∷ parts) are =
    grind (arith, common_steps, sum_by-cons, part_length, part_bytes, (parts_long old utf8 parts are.1))

layer_kept : (units : ℕ → ℕ) (before : List ℕ) (batch : List ContentChange) (parts : List Part)
    → IsLayer (meaning units (chars before) batch) before parts → AreKept before parts
layer_kept units before batch parts is = record {
  utf8 = is.utf8;
  are = is.are;
  keeps = meaning_keeps (chars before) units batch (items_of (chars before) parts) is.means;
}

module _ (units : ℕ → ℕ) (before : List ℕ) (len : ℕ) (changes : List Change) (ends : List (ℕ × ℕ)) (half : ℕ)
    (r : AreResolved units before len changes ends) (within : half ≤ length changes) where
  pub enough_ends : half ≤ length ends
  enough_ends = omega (arith, (ends_mean units (chars before) 0 (plain (chars before)) changes ends r.ends_are).count)

  module _ (first second : List Change) (first_ends second_ends : List (ℕ × ℕ)) (first_is : first ≡ take half changes)
      (second_is : second ≡ drop half changes) (first_ends_are : first_ends ≡ take half ends)
      (second_ends_are : second_ends ≡ drop half ends) where
    abbrev front : List ContentChange
    front = map content_change first

    abbrev back : List ContentChange
    back = map content_change second

    halved : changes ≡ first ++ second
    halved = sym (ap₂ (λ (x y : List Change). x ++ y) first_is second_is ∙ take-append-drop half changes)

    both : map content_change changes ≡ front ++ back
    both = ap (map content_change) halved ∙ map-append content_change first second

    count : length front ≡ half
    count = length-map first content_change ∙ (ap length first_is ∙ length-take-le half changes within)

    texts : texts_len changes ≡ texts_len first + texts_len second
    texts = ap texts_len halved ∙ sum_by-append (λ (c : Change). string_len c.text) first second

    ends_both : AreEndsOf units (chars before) (plain (chars before)) (front ++ back) ends
    ends_both = rw both at r.ends_are

    front_ends : AreEndsOf units (chars before) (plain (chars before)) front first_ends
    front_ends = rw first_ends_are (rw count at
        (ends_front units (chars before) (plain (chars before)) front back ends ends_both))

    pub first_resolved : AreResolved units before len first first_ends
    first_resolved = record {
      utf8 = r.utf8;
      len_is = r.len_is;
      room = omega (arith, r.room, texts);
      ends_are = front_ends;
    }

    module _ (parts : List Part) (one : IsLayer (meaning units (chars before) front) before parts) where
      abbrev middle : List Item
      middle = items_of (chars before) parts

      abbrev pub reached : List ℕ
      reached = bytes_of before parts

      reached_utf8 : IsUtf8 reached
      reached_utf8 = parts_utf8 before r.utf8 parts one.are

      reached_text : chars reached ≡ text_of (chars before) middle
      reached_text = sym (chars_from_encodes (text_of (chars before) middle) reached reached_utf8
          (sym (parts_bytes before r.utf8 parts one.are)))

      long : sum_by part_len parts ≡ length reached
      long = parts_long before r.utf8 parts one.are

      longer : length reached ≤ len + texts_len first
      longer =
          let m = ends_mean units (chars before) 0 (plain (chars before)) first first_ends front_ends in
          let same : ◌≡◌ {A = Result (List Item) (ℕ × Fault)} (Ok m.last) (Ok middle) = sym m.means ∙ one.means in
          let last : m.last ≡ middle = cc in
          omega (
            arith,
            m.longer,
            r.len_is,
            ap length (parts_bytes before r.utf8 parts one.are),
            ap (λ (i : List Item). length (encode_utf8_all (text_of (chars before) i))) last,
            ap (λ (t : List ℕ). length (encode_utf8_all t)) (plain_text (chars before)),
            ap length (encodes-chars before r.utf8),
          )

      pub ordered : AreOrdered parts
      ordered = are_ordered before r.utf8 parts one.are

      pub short : sum_by part_len parts ≤ 2147483648
      short = omega (arith, long, longer, r.room, texts)

      pub second_resolved : (left : ℕ) → left ≡ sum_by part_len parts
          → AreResolved units reached left second second_ends
      second_resolved left left_is =
          let there : AreEndsOf units (chars before) middle back (drop half ends) = rw count at
          (ends_back units (chars before) 0 (plain (chars before)) middle front back ends one.means ends_both) in
          record {
            utf8 = reached_utf8;
            len_is = left_is ∙ long;
            room = omega (arith, left_is, long, longer, r.room, texts);
            ends_are = rw (second_ends_are, reached_text)
                (ends_over units (chars before) middle (plain (text_of (chars before) middle)) back (drop half ends)
                (subst (λ (i : List Item). AreEndsOf units (chars before) i back (drop half ends))
                (sym (then-plain (chars before) middle)) there));
          }

      module _ (others : List Part) (two : IsLayer (meaning units (chars reached) back) reached others) where
        pub halves : AreComposed before reached parts others
        halves = composed (layer_kept units before front parts one) (layer_kept units reached back others two)
            reached_text

        pub halves_mean : (all : List Part) → all ≡ through_parts parts others
            → IsLayer (meaning units (chars before) (map content_change changes)) before all
        halves_mean all all_is = rw all_is (record {
          utf8 = r.utf8;
          are = halves.kept.are;
          means = ap (meaning units (chars before)) both
              ∙ (then_means units (chars before) front back middle (items_of (chars reached) others) one.means
              (subst (λ (t : List ℕ). meaning units t back ≡ Ok (items_of (chars reached) others)) reached_text
              two.means)
              ∙ ap (λ (i : List Item). Ok i) (sym halves.items));
        })

-- Both halves, by what holds of each on any text.
module _ (len : ℕ) (changes : List Change) (ends : List (ℕ × ℕ)) (half : ℕ) (within : half ≤ length changes)
    (first second : List Change) (first_ends second_ends : List (ℕ × ℕ)) (first_is : first ≡ take half changes)
    (second_is : second ≡ drop half changes) (first_ends_are : first_ends ≡ take half ends)
    (second_ends_are : second_ends ≡ drop half ends) (left : ℕ) (parts others : List Part)
    (left_is : left ≡ sum_by part_len parts)
    (one : (units : ℕ → ℕ) (before : List ℕ) → AreResolved units before len first first_ends
    → IsLayer (meaning units (chars before) (map content_change first)) before parts)
    (two : (units : ℕ → ℕ) (before : List ℕ) → AreResolved units before left second second_ends
    → IsLayer (meaning units (chars before) (map content_change second)) before others)
    (units : ℕ → ℕ) (before : List ℕ) (r : AreResolved units before len changes ends) where
  one_here : IsLayer (meaning units (chars before) (map content_change first)) before parts
  one_here = one units before (first_resolved units before len changes ends half r within first second first_ends
      second_ends first_is second_is first_ends_are second_ends_are)

  two_here : IsLayer (meaning units (chars (bytes_of before parts)) (map content_change second)) (bytes_of before parts)
      others
  two_here = two units (bytes_of before parts) (second_resolved units before len changes ends half r within first second
      first_ends second_ends first_is second_is first_ends_are second_ends_are parts one_here left left_is)

  pub any_halves : AreComposed before (bytes_of before parts) parts others
  any_halves = halves units before len changes ends half r within first second first_ends second_ends first_is second_is
      first_ends_are second_ends_are parts one_here others two_here

  pub any_mean : (all : List Part) → all ≡ through_parts parts others
      → IsLayer (meaning units (chars before) (map content_change changes)) before all
  any_mean = halves_mean units before len changes ends half r within first second first_ends second_ends first_is
      second_is first_ends_are second_ends_are parts one_here others two_here
