-- What a change makes of the fields of pieces.
use Rattle.lsp_edit.proofs.Prelude.{ℕ, ◌≡◌, ◌+◌, ◌-◌, ◌<◌, ◌≤◌, true, false, List, [], ◌∷◌, ◌++◌, length, map, take, drop, nat_le, refl, sym, ap, ◌∙◌, subst, arith, append_assoc, encode_utf8_all, IsCharBoundary, ⊎_elim, inr, leb-true, le-leb, Option, Some, None, Result, Ok, Err, string_bytes, replace_range, chars, IsUtf8, cases_Bool, length-map, map-append, take-map, drop-map, encodes-append, encodes-chars, chars_from_encodes, IsUtf8-from_is_utf8, is_utf8-from_IsUtf8, Range, place_of, denoted, place_rises, place_boundary, take_place, drop_place, denoted_whole, replaced_length, Change, EditFault, Item, New, character_of, text_of, ContentChange, Fault, Reversed, items_after, in_order, ends_of, fault_at, IsFaultOfChange, places_at, Keeps, Part, items_of, bytes_of, AreParts, NoneTouch, new_parts, AreCut, AreOrdered, replaced_parts, ArePieces, Applied, PlainData, content_change, HasRange, PiecesData, Span, part_of, parts_of, edited_text, edited_bytes, next_number, common_steps, AreEndsIn, IsCurrent, put_between, bytes_left, index_of}
use Rattle.std.specs.Prelude.{MatchResult}
use Rattle.lsp_edit.proofs.Canonical.KeepsLemmas.{after_change_keeps}
use Rattle.lsp_edit.proofs.Parts.CutLemmas.{text_of-new, part_ordered}
use Rattle.lsp_edit.proofs.Parts.CutPartsLemmas.{cut_parts, parts_bytes, parts_utf8}
use Rattle.lsp_edit.proofs.Parts.MergedLemmas.{new_apart, replaced_apart}
use Rattle.lsp_edit.proofs.Parts.PutLemmas.{replaced_items, replaced_few, new_items, new_few}
use Rattle.lsp_edit.proofs.Parts.IndexLemmas.{index_of-place}

-- A range whose places were told, with the indexes that they are of.
pub record AreEnds (units : ℕ → ℕ) (text : List ℕ) (range : Range) (start stop : ℕ) : Type 0 where
  pub low : ℕ
  pub high : ℕ
  pub low_is : denoted units text range.start ≡ Some low
  pub high_is : denoted units text range.stop ≡ Some high
  pub order : low ≤ high
  pub within : high ≤ length text
  pub start_is : place_of text low ≡ start
  pub stop_is : place_of text high ≡ stop
  pub low_at : index_of text start ≡ low
  pub high_at : index_of text stop ≡ high
  pub rises : start ≤ stop

pub ends_told : (units : ℕ → ℕ) (text : List ℕ) (range : Range) (number start stop : ℕ) → Ok (start, stop)
    ≡ places_at number text (ends_of units text range) → AreEnds units text range start stop
ends_told units text range number start stop is =
    by_ends (denoted units text range.start) (denoted units text range.stop) refl refl is
  where
    by_ends : (a b : Option ℕ) → denoted units text range.start ≡ a → denoted units text range.stop ≡ b
        → ◌≡◌ {A = Result (ℕ × ℕ) EditFault} (Ok (start, stop)) (places_at number text (in_order a b))
        → AreEnds units text range start stop
    by_ends None b at_a at_b e = absurd (cc)
    by_ends (Some a) None at_a at_b e = absurd (cc)
    by_ends (Some a) (Some b) at_a at_b e =
        ⊎_elim
        (λ (o : nat_le a b ≡ true).
        let f : ◌≡◌ {A = Result (ℕ × ℕ) EditFault} (Ok (start, stop)) (Ok (place_of text a, place_of text b)) =
        rw o at e in
        let g : ◌≡◌ {A = ℕ × ℕ} (start, stop) (place_of text a, place_of text b) = cc in
        let from : place_of text a ≡ start = sym (ap (λ (p : ℕ × ℕ). p.0) g) in
        let to : place_of text b ≡ stop = sym (ap (λ (p : ℕ × ℕ). p.1) g) in
        let order = leb-true a b o in
        let within = (denoted_whole units text range.stop b at_b).within in
        record {
          low = a;
          high = b;
          low_is = at_a;
          high_is = at_b;
          order = order;
          within = within;
          start_is = from;
          stop_is = to;
          low_at = ap (index_of text) (sym from) ∙ index_of-place text a (omega arith);
          high_at = ap (index_of text) (sym to) ∙ index_of-place text b within;
          rises = omega (arith, place_rises text a b order within);
        })
        (λ (o : nat_le a b ≡ false). absurd (let f : ◌≡◌ {A = Result (ℕ × ℕ) EditFault} (Ok (start, stop))
        (Err (fault_at number Reversed)) = rw o at e in cc))
        (cases_Bool (nat_le a b))

-- A fault of the places is that of the change.
pub fault_told : (number : ℕ) (text : List ℕ) (items : List Item) (characters : List ℕ) (fault : EditFault)
    (ends : Result (ℕ × ℕ) Fault) → Err fault ≡ places_at number text ends
    → IsFaultOfChange number (put_between items characters ends) fault
fault_told number text items characters fault (Ok ends) e = absurd (cc)
fault_told number text items characters fault (Err why) e = inr (why, refl, cc)

-- Places that were told are the same, whatever the number of the change.
pub places_any : (number : ℕ) (text : List ℕ) (places : ℕ × ℕ) (ends : Result (ℕ × ℕ) Fault)
    → Ok places ≡ places_at number text ends → Ok places ≡ places_at 0 text ends
places_any number text places (Ok ends) e = cc
places_any number text places (Err why) e = absurd (cc)

pub ends_in : (units : ℕ → ℕ) (number : ℕ) (text : List ℕ) (change : ContentChange) (range : Range) (ends : ℕ × ℕ)
    → change.range ≡ Some range → Ok ends ≡ places_at number text (ends_of units text range)
    → AreEndsIn units text change ends
ends_in units number text change range ends ranged found other is =
    let same : range ≡ other = cc in
    subst (λ (r : Range). ◌≡◌ {A = Result (ℕ × ℕ) EditFault} (Ok ends) (places_at 0 text (ends_of units text r))) same
    (places_any number text ends (ends_of units text range) found)

-- What was found of the places of a change's range in a text, said of what callers see.
pub places_told : (units : ℕ → ℕ) (change : ContentChange) (range : Range) (answer : Result (ℕ × ℕ) EditFault)
    (edited : PlainData) (text : List ℕ) (number : ℕ) → change.range ≡ Some range → edited.changes ≡ number
    → edited_text edited ≡ text → answer ≡ places_at number text (ends_of units text range)
    → MatchResult answer (AreEndsIn units (edited_text edited) change)
    (IsFaultOfChange edited.changes (items_after units edited.before edited.items change))
places_told units change range (Ok ends) edited text number ranged count same found =
    subst (λ (t : List ℕ). AreEndsIn units t change ends) (sym same)
    (ends_in units number text change range ends ranged found)
places_told units change range (Err fault) edited text number ranged count same found =
    rw (ranged, count)
    (subst (λ (t : List ℕ). IsFaultOfChange number (put_between edited.items change.text (ends_of units t range)) fault)
    (sym same) (fault_told number text edited.items change.text fault (ends_of units text range) found))

-- What was found of the places in a text, said of its bytes.
pub places_seen : (units : ℕ → ℕ) (number : ℕ) (range : Range) (r : Result (ℕ × ℕ) EditFault) (seen bytes : List ℕ)
    → seen ≡ bytes → r ≡ places_at number (chars seen) (ends_of units (chars seen) range)
    → r ≡ places_at number (chars bytes) (ends_of units (chars bytes) range)
places_seen units number range r seen bytes same found =
    subst (λ (b : List ℕ). r ≡ places_at number (chars b) (ends_of units (chars b) range)) same found

-- The text of items in which some are replaced.
pub text_put : (old : List ℕ) (items : List Item) (new : List ℕ) (low high : ℕ)
    → text_of old (take low items ++ (map New new ++ drop high items))
    ≡ take low (text_of old items) ++ (new ++ drop high (text_of old items))
text_put old items new low high = simp (map-append, take-map, drop-map, text_of-new)

-- Its bytes: those between two places are replaced.
pub bytes_put : (text new : List ℕ) (low high start stop : ℕ) → IsUtf8 new → place_of text low ≡ start
    → place_of text high ≡ stop → encode_utf8_all (take low text ++ (chars new ++ drop high text))
    ≡ replace_range (encode_utf8_all text) start stop new
bytes_put text new low high start stop utf8 at_start at_stop =
    grind (arith, common_steps, take_place, drop_place, encodes-append, encode_utf8_all, encodes-chars, append_assoc)

-- What holds of items in whose text a new one replaces the bytes between the ends of a range.
pub record AreReplaced (units : ℕ → ℕ) (old : List ℕ) (items : List Item) (range : Range) (new : List ℕ)
    (start stop : ℕ) : Type 0 where
  pub ends : AreEnds units (text_of old items) range start stop
  pub within : ends.high ≤ length items
  pub order : start ≤ stop
  pub at_start : IsCharBoundary (encode_utf8_all (text_of old items)) start
  pub at_stop : IsCharBoundary (encode_utf8_all (text_of old items)) stop
  pub made : items_after units old items (record { range = Some range; text = chars new })
      ≡ Ok (take ends.low items ++ (map New (chars new) ++ drop ends.high items))
  pub bytes : encode_utf8_all (text_of old (take ends.low items ++ (map New (chars new) ++ drop ends.high items)))
      ≡ replace_range (encode_utf8_all (text_of old items)) start stop new

pub are_replaced : (units : ℕ → ℕ) (old : List ℕ) (items : List Item) (range : Range) (new : List ℕ) (start stop : ℕ)
    → IsUtf8 (encode_utf8_all (text_of old items)) → IsUtf8 new
    → Ok (start, stop) ≡ places_at 0 (text_of old items) (ends_of units (text_of old items) range)
    → AreReplaced units old items range new start stop
are_replaced units old items range new start stop utf8 new_utf8 found =
    let text : List ℕ = text_of old items in
    let e : AreEnds units text range start stop = ends_told units text range 0 start stop found in
    let same : chars (encode_utf8_all text) ≡ text = sym (chars_from_encodes text (encode_utf8_all text) utf8 refl) in
    let boundary : (k place : ℕ) → k ≤ length text → place_of text k ≡ place
    → IsCharBoundary (encode_utf8_all text) place
    = λ k place within is. subst (IsCharBoundary (encode_utf8_all text))
    (ap (λ (t : List ℕ). place_of t k) same ∙ is)
    (place_boundary (encode_utf8_all text) k utf8 (omega (arith, ap length same, within))) in
    record {
      ends = e;
      within = omega (arith, length-map items (character_of old));
      order = e.rises;
      at_start = boundary e.low start (omega (arith, e.order, e.within)) e.start_is;
      at_stop = boundary e.high stop e.within e.stop_is;
      made = rw (e.low_is, e.high_is, le-leb e.low e.high e.order) refl;
      bytes = ap encode_utf8_all (text_put old items (chars new) e.low e.high)
          ∙ bytes_put text new e.low e.high start stop new_utf8 e.start_is e.stop_is;
    }

-- what callers see of the fields
abbrev pub seen : List ℕ → List Part → ℕ → PlainData
seen before parts changes = record { before = chars before; items = items_of (chars before) parts; changes = changes }

-- The fields after a change.
pub record IsNext (units : ℕ → ℕ) (before : List ℕ) (parts : List Part) (changes : ℕ) (change : ContentChange)
    (next : List Part)
    (len : ℕ) : Type 0 where
  pub made : items_after units (chars before) (items_of (chars before) parts) change ≡ Ok (items_of (chars before) next)
  pub are : ArePieces before next len (next_number changes)

-- What holds of pieces where a new text replaces the bytes between the ends of a range.
pub record IsRanged (units : ℕ → ℕ) (range : Range) (before : List ℕ) (parts : List Part) (len changes : ℕ)
    (new : List ℕ) (start stop : ℕ) : Type 0 where
  pub start_cut : AreCut parts start
  pub stop_cut : AreCut parts stop
  pub order : start ≤ stop
  pub within : stop ≤ len
  pub ordered : AreOrdered parts
  pub bytes : bytes_of before (replaced_parts parts start stop new)
      ≡ replace_range (bytes_of before parts) start stop new
  pub start_at : (bytes : List ℕ) → bytes ≡ bytes_of before parts → IsCharBoundary bytes start
  pub stop_at : (bytes : List ℕ) → bytes ≡ bytes_of before parts → IsCharBoundary bytes stop
  pub short : (bytes : List ℕ) → bytes ≡ bytes_of before parts → length (replace_range bytes start stop new)
      ≤ 2147483648
  pub next : (spans : List Span) → parts_of spans ≡ replaced_parts parts start stop new
      → length spans < 18446744073709551616
      → IsNext units before parts changes (record { range = Some range; text = chars new })
      (replaced_parts parts start stop new) (len - (stop - start) + length new)

pub are_ordered : (before : List ℕ) → IsUtf8 before → (parts : List Part) → AreParts before parts → AreOrdered parts
are_ordered before utf8 [] are = tt
are_ordered before utf8 (part ∷ parts) are =
    (part_ordered before utf8 part are.0, are_ordered before utf8 parts are.1)

module _ (units : ℕ → ℕ) (before : List ℕ) (parts : List Part) (len changes : ℕ)
    (are : ArePieces before parts len changes) (new : List ℕ) (utf8 : IsUtf8 new)
    (room : len + length new ≤ 2147483648) where
  abbrev had : List Item
  had = items_of (chars before) parts

  abbrev now : List ℕ
  now = text_of (chars before) had

  old_utf8 : IsUtf8 before
  old_utf8 = IsUtf8-from_is_utf8 before are.utf8

  now_bytes : bytes_of before parts ≡ encode_utf8_all now
  now_bytes = parts_bytes before old_utf8 parts are.are

  next_of : (change : ContentChange) (next : List Part) (next_len : ℕ)
      → items_after units (chars before) had change ≡ Ok (items_of (chars before) next)
      → AreParts before next → NoneTouch next
      → next_len ≡ length (bytes_of before next) → next_len ≤ 2147483648 → length next ≤ length parts + 2
      → length next < 18446744073709551616 → IsNext units before parts changes change next next_len
  next_of change next next_len made next_are next_apart long fits few small = record {
    made = made;
    are = record {
      utf8 = are.utf8;
      are = next_are;
      apart = next_apart;
      keeps = after_change_keeps (chars before) units had (items_of (chars before) next)
          change are.keeps made;
      long = long;
      room = fits;
      few = omega (arith, are.few);
      fresh = λ e. absurd (omega arith);
    };
  }

  pub all_next : length (new_parts new) < 18446744073709551616
      → IsNext units before parts changes (record { range = None; text = chars new }) (new_parts new) (length new)
  all_next small =
      let n = new_items before new (is_utf8-from_IsUtf8 new utf8) in
      let text = ap (text_of (chars before)) n.0 ∙ text_of-new (chars before) (chars new) in
      let bytes = parts_bytes before old_utf8 (new_parts new) n.1
      ∙ (ap encode_utf8_all text ∙ encodes-chars new utf8) in
      next_of (record { range = None; text = chars new }) (new_parts new) (length new)
      (ap (λ (i : List Item). Ok i) (sym n.0))
      n.1
      (new_apart new)
      (sym (ap length bytes))
      (omega arith)
      (omega (arith, new_few new))
      small

  module _ (range : Range) (start stop : ℕ)
      (found : Ok (start, stop) ≡ places_at 0 now (ends_of units now range)) where
    is_ranged : IsRanged units range before parts len changes new start stop
    is_ranged =
        let r = are_replaced units (chars before) had range new start stop
        (subst IsUtf8 now_bytes (parts_utf8 before old_utf8 parts are.are)) utf8 found in
        let cut : (index place : ℕ) → index ≤ length had → place_of now index ≡ place → AreCut parts place
        = λ index place within is. subst (AreCut parts) is (cut_parts before old_utf8 parts index are.are within).cut in
        let in_text : stop ≤ len = omega (arith, r.at_stop.0, are.long, ap length now_bytes) in
        let both = rw (r.ends.start_is, r.ends.stop_is) at
        (replaced_items before old_utf8 parts r.ends.low r.ends.high new are.are (is_utf8-from_IsUtf8 new utf8)
        r.ends.order r.within) in
        let range_bytes = parts_bytes before old_utf8 (replaced_parts parts start stop new) both.1
        ∙ (ap (bytes_left before) both.0 ∙ (r.bytes ∙ ap (λ (bs : List ℕ). replace_range bs start stop new)
        (sym now_bytes))) in
        let long : len - (stop - start) + length new ≡ length (bytes_of before (replaced_parts parts start stop new)) =
        grind (arith, common_steps, range_bytes, in_text, (r.order), replaced_length) in
        record {
          start_cut = cut r.ends.low start (omega (arith, r.ends.order, r.within)) r.ends.start_is;
          stop_cut = cut r.ends.high stop r.within r.ends.stop_is;
          order = r.order;
          within = in_text;
          ordered = are_ordered before old_utf8 parts are.are;
          bytes = range_bytes;
          start_at = λ bytes same. rw (same, now_bytes) r.at_start;
          stop_at = λ bytes same. rw (same, now_bytes) r.at_stop;
          short = λ bytes same. rw (same, ← range_bytes, ← long) (omega (arith, in_text, r.order));
          next = λ spans made few.
              next_of (record { range = Some range; text = chars new }) (replaced_parts parts start stop new)
              (len - (stop - start) + length new)
              (r.made ∙ ap (λ (i : List Item). Ok i) (sym both.0))
              both.1
              (replaced_apart parts start stop new are.apart)
              long
              (omega (arith, in_text, r.order))
              (replaced_few parts start stop new r.order)
              (omega (arith, few, ap length made, length-map spans part_of));
        }

pub room_told : (before : List ℕ) (parts : List Part) (len changes more : ℕ) (edited : PlainData)
    → ArePieces before parts len changes → seen before parts changes ≡ edited → length (edited_bytes edited) + more
    ≤ 2147483648 → len + more ≤ 2147483648
room_told before parts len changes more edited are is room =
    let n = are.long ∙ ap length (parts_bytes before (IsUtf8-from_is_utf8 before are.utf8) parts are.are) in
    omega (arith, n, ap (λ (e : PlainData). length (edited_bytes e)) is)

pub next_told : (units : ℕ → ℕ) (before : List ℕ) (parts : List Part) (changes : ℕ) (change : ContentChange)
    (next : List Part) (len : ℕ) → IsNext units before parts changes change next len
    → (edited : PlainData) → seen before parts changes ≡ edited → (made : List Part) → made ≡ next → (count : ℕ)
    → count ≡ next_number changes → Applied units edited change (seen before made count)
next_told units before parts changes change next len is edited view made same count counted =
    subst (λ (e : PlainData). Applied units e change (seen before made count)) view (grind (arith, common_steps))

pub next_holds : (units : ℕ → ℕ) (before : List ℕ) (parts : List Part) (changes : ℕ) (change : ContentChange)
    (next : List Part) (len : ℕ) → IsNext units before parts changes change next len
    → (made : List Part) → made ≡ next → (count : ℕ) → count ≡ next_number changes → ArePieces before made len count
next_holds units before parts changes change next len is made same count counted = rw (same, counted) is.are

-- A range whose ends were found in what callers see.
pub ranged : {before : List ℕ} {parts : List Part} {len changes start stop : ℕ} {whole : PiecesData}
    → ArePieces before parts len changes → record { edited = seen before parts changes; parts = parts } ≡ whole
    → (new : List ℕ) → IsUtf8 new → length (edited_bytes whole.edited) + length new ≤ 2147483648
    → (found : HasRange (edited_text whole.edited) start stop)
    → IsRanged found.units found.range before parts len changes new start stop
ranged {before} {parts} {len} {changes} {start} {stop} {whole} are view new utf8 room found =
    let is = ap (λ (p : PiecesData). p.edited) view in
    is_ranged found.units before parts len changes are new utf8
    (room_told before parts len changes (length new) whole.edited are is room) found.range start stop
    (subst (λ (text : List ℕ). ◌≡◌ {A = Result (ℕ × ℕ) EditFault} (Ok (start, stop))
    (places_at 0 text (ends_of found.units text found.range))) (sym (ap edited_text is)) found.ends)

pub edit_is : (change : Change) (range : Option Range) (bytes : List ℕ) → change.range ≡ range
    → bytes ≡ string_bytes change.text → record { range = range; text = chars bytes } ≡ content_change change
edit_is change range bytes ranged same = λ i. record { range = sym ranged i; text = chars (same i) }

pub current_is : (bytes : List ℕ) (made : Option (List ℕ)) (current : List ℕ) → IsCurrent bytes made
    → made ≡ Some current → current ≡ bytes
current_is bytes made current is e = subst (IsCurrent bytes) e is

-- what callers see keeps each CRLF of the old text whole
pub keeps_seen : (before : List ℕ) (parts : List Part) (len changes : ℕ) (edited : PlainData)
    → ArePieces before parts len changes → seen before parts changes ≡ edited → Keeps edited.before 0 edited.items
keeps_seen before parts len changes edited are view = subst (λ (e : PlainData). Keeps e.before 0 e.items) view are.keeps
