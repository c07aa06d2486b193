-- Text edits: how they are found one after another, and put in spans.
use Rattle.lsp_edit.proofs.Prelude.{ℕ, suc, false, ◌≡◌, ◌+◌, ◌<◌, ◌≤◌, ◌⊎◌, List, [], ◌∷◌, ◌++◌, length, map, slice_index_or as get_or, Result, Ok, Err, refl, sym, ap, ap₂, ◌∙◌, subst, arith, ⊎_elim, inr, append_assoc, IsOk, is_ok, string_bytes, is_utf8, chars, IsUtf8, IsCharBoundary, cases_Bool, cases_lt, nat_lt, le-leb, ltb-true, map-append, length-append, AllByRecursion, encodes-chars, is_utf8-from_IsUtf8, IsUtf8-string_bytes, splits_crlf, splits_none_past, denoted_whole, IsPlace, place_of, place_end, place_boundary, EditFault, Placed, TextEdit, TextEditFault, Overlap, Fault, ends_of, fault_at, places_at, Part, AreParts, index_of, new_parts, LocatedEdit, located, located_first, fault_of, HasRangeFault, located_of, located_after, Lies, ArePlaced, AreApart, old_parts, parts_left, DoOverlap, common_steps, next_is, numbered}
use Rattle.std.proofs.lemmas.List.{get_or_default}
use Rattle.std.proofs.lemmas.List.Elements.{All-push}
use Rattle.std.specs.List.{All}
use Rattle.lsp_edit.proofs.Composing.AppliedLemmas.{ends_told}
use Rattle.lsp_edit.proofs.Parts.IndexLemmas.{index_of-place}
use Rattle.lsp_edit.proofs.Parts.PutLemmas.{new_items, are_both}

-- ---- the edits of a list, one after another

-- No range of the edits before the rest is faulty.
pub record Locating (units : ℕ → ℕ) (old : List ℕ) (edits : List TextEdit) (number : ℕ) (rest : List TextEdit) : Type
    0 where
  pub front : List LocatedEdit
  pub at : located units old 0 edits ≡ located_after front (located units old number rest)

module _ (units : ℕ → ℕ) (old : List ℕ) (edits : List TextEdit) (number : ℕ) (edit : TextEdit)
    (rest more : List TextEdit) (is : rest ≡ edit ∷ more) (locating : Locating units old edits number rest) where
  abbrev one : ℕ × ℕ → LocatedEdit
  one ends = record { number = number; start = ends.0; stop = ends.1; text = chars (string_bytes edit.new_text) }

  first_at : (ends : Result (ℕ × ℕ) Fault) → ends_of units old edit.range ≡ ends → located units old 0 edits
      ≡ located_after locating.front (located_first number (chars (string_bytes edit.new_text)) ends
      (located units old (suc number) more))
  first_at ends e =
      locating.at
      ∙ (ap (λ (r : List TextEdit). located_after locating.front (located units old number r)) is
      ∙ ap (λ (x : Result (ℕ × ℕ) Fault). located_after locating.front (located_first number
      (chars (string_bytes edit.new_text)) x (located units old (suc number) more))) e)

  pub located_on : (ends : ℕ × ℕ) → ends_of units old edit.range ≡ Ok ends → located units old 0 edits
      ≡ located_after (locating.front ++ one ends ∷ []) (located units old (number + 1) more)
  located_on ends e =
      let n : suc number ≡ number + 1 = omega arith in
      first_at (Ok ends) e
      ∙ (one_more (located units old (suc number) more)
      ∙ ap (λ (k : ℕ). located_after (locating.front ++ one ends ∷ []) (located units old k more)) n)
    where
      one_more : (others : Result (List LocatedEdit) (ℕ × Fault)) → located_after locating.front
          (located_first number (chars (string_bytes edit.new_text)) (Ok ends) others)
          ≡ located_after (locating.front ++ one ends ∷ []) others
      one_more (Ok es) = ap (λ (x : List LocatedEdit). Ok x) (sym (append_assoc locating.front (one ends ∷ []) es))
      one_more (Err fault) = refl

  pub locating_on : (places : ℕ × ℕ) → Ok places ≡ places_at number old (ends_of units old edit.range)
      → Locating units old edits (number + 1) more
  locating_on places found = by_ends (ends_of units old edit.range) refl found
    where
      by_ends : (ends : Result (ℕ × ℕ) Fault) → ends_of units old edit.range ≡ ends
          → Ok places ≡ places_at number old ends → Locating units old edits (number + 1) more
      by_ends (Ok ends) e g = record { front = locating.front ++ one ends ∷ []; at = located_on ends e }
      by_ends (Err why) e g = absurd (cc)

  pub locating_stops : (fault : EditFault) → Err fault ≡ places_at number old (ends_of units old edit.range)
      → HasRangeFault units old edits (fault_of fault)
  locating_stops fault found = by_ends (ends_of units old edit.range) refl found
    where
      by_ends : (ends : Result (ℕ × ℕ) Fault) → ends_of units old edit.range ≡ ends
          → Err fault ≡ places_at number old ends → HasRangeFault units old edits (fault_of fault)
      by_ends (Ok ends) e g = absurd (cc)
      by_ends (Err why) e g = let same : fault ≡ fault_at number why = cc in
          record { number = number; why = why; at = first_at (Err why) e; error = ap fault_of same }

pub located_ok : (units : ℕ → ℕ) (old : List ℕ) (edits : List TextEdit) (number : ℕ) (rest : List TextEdit)
    → Locating units old edits number rest → rest ≡ [] → IsOk (located units old 0 edits)
located_ok units old edits number rest locating none =
    ap is_ok (locating.at
    ∙ ap (λ (r : List TextEdit). located_after locating.front (located units old number r)) none)

numbered_more : (placed : List Placed) (one : Placed)
    → ((k : ℕ) (d : Placed) → k < length placed → (get_or placed k d).number ≡ k) → one.number ≡ length placed
    → (k : ℕ) (d : Placed) → k < length (placed ++ one ∷ []) → (get_or (placed ++ one ∷ []) k d).number ≡ k
numbered_more placed one numbered number_is k d less = grind (arith, common_steps, cases_lt)

-- One edit more, with its byte offsets.
pub placed_more : (units : ℕ → ℕ) (old : List ℕ) (edits : List TextEdit) (edit : TextEdit) (rest more : List TextEdit)
    (placed next : List Placed) (one : Placed) → rest ≡ edit ∷ more → ArePlaced units old edits rest placed
    → Ok (one.start, one.stop) ≡ places_at one.number old (ends_of units old edit.range) → one.number ≡ length placed
    → one.text.now ≡ string_bytes edit.new_text → next ≡ placed ++ one ∷ [] → ArePlaced units old edits more next
placed_more units old edits edit rest more placed next one is are found number_is text_is next_is =
    let e = ends_told units old edit.range one.number one.start one.stop found in
    let ends : ends_of units old edit.range ≡ Ok (e.low, e.high) =
    rw (e.low_is, e.high_is, le-leb e.low e.high e.order) refl in
    let same : located_of old one ≡ record {
      number = length placed;
      start = e.low;
      stop = e.high;
      text = chars (string_bytes edit.new_text);
    }
    = λ i. record { number = number_is i; start = e.low_at i; stop = e.high_at i; text = chars (text_is i) } in
    let all = ap (map (located_of old)) next_is ∙ (map-append (located_of old) placed (one ∷ [])
    ∙ ap (λ (x : LocatedEdit). map (located_of old) placed ++ x ∷ []) same) in
    let long : length next ≡ length placed + 1 = ap length next_is ∙ length-append placed (one ∷ []) in
    record {
      at = located_on units old edits (length placed) edit rest more is
          (record { front = map (located_of old) placed; at = are.at }) (e.low, e.high) ends
          ∙ sym (ap₂ (λ (front : List LocatedEdit) (n : ℕ). located_after front (located units old n more)) all long);
      lie = subst (All (Lies old)) (sym next_is) (All-push (Lies old) placed one are.lie (record {
        at_start = grind (arith, common_steps, denoted_whole);
        at_stop = grind (arith, common_steps, denoted_whole);
        order = e.rises;
        utf8 = ap is_utf8 text_is ∙ is_utf8-from_IsUtf8 (string_bytes edit.new_text)
            (IsUtf8-string_bytes edit.new_text);
      }));
      numbered = subst (λ (ps : List Placed). (k : ℕ) (d : Placed) → k < length ps → (get_or ps k d).number ≡ k)
          (sym next_is) (numbered_more placed one are.numbered number_is);
    }

-- what is read past the end of a list
abbrev pub no_edit : Placed
no_edit = record { number = 0; start = 0; stop = 0; text = record { ref_ptr = (0, 0); now = [] } }

-- ---- the walk over edits in order

-- The edit before an index stops at a place, and has that number.
abbrev Stops : List Placed → ℕ → ℕ → ℕ → Type 0
Stops ordered index low last = (before : ℕ) × (index ≡ suc before) × (low ≡ (get_or ordered before no_edit).stop)
    × (last ≡ (get_or ordered before no_edit).number)

-- How far the walk came: what edits leave from a place on completes the parts that were made.
pub record Spanning (len : ℕ) (ordered rest : List Placed) (index : ℕ) (made : List Part) (low last : ℕ) : Type 0 where
  pub parts : made ++ parts_left len low rest ≡ parts_left len 0 ordered
  pub apart : AreApart low rest → AreApart 0 ordered
  pub stops : (low ≡ 0) ⊎ Stops ordered index low last

module _ (len : ℕ) (ordered rest : List Placed) (index : ℕ) (made : List Part) (low last : ℕ) (edit : Placed)
    (more : List Placed) (is : rest ≡ edit ∷ more) (within : index < length ordered)
    (edit_is : edit ≡ get_or ordered index no_edit) (spanning : Spanning len ordered rest index made low last) where
  pub spanning_on : (some all : List Part) → low ≤ edit.start → some ≡ made ++ old_parts low edit.start
      → all ≡ some ++ new_parts edit.text.now → Spanning len ordered more (index + 1) all edit.stop edit.number
  spanning_on some all order some_is all_is = record {
    parts = grind (arith, common_steps, append_assoc);
    apart = λ h. spanning.apart (subst (AreApart low) (sym is) (order, h));
    stops = inr (index, omega arith, ap (λ (p : Placed). p.stop) edit_is, ap (λ (p : Placed). p.number) edit_is);
  }

  pub overlapping : (fault : TextEditFault) → edit.start < low → fault ≡ Overlap last edit.number
      → DoOverlap ordered fault
  overlapping fault less error =
      ⊎_elim
      (λ (none : low ≡ 0). absurd (omega arith))
      (λ (t : Stops ordered index low last).
      let next : t.0 + 1 ≡ index = omega (arith, t.1) in
      record {
        index = t.0;
        first = get_or ordered t.0 no_edit;
        second = edit;
        within = omega (arith, next);
        first_is = get_or_default ordered t.0 (get_or ordered t.0 no_edit) no_edit (omega (arith, next));
        second_is = rw next (get_or_default ordered index edit no_edit within ∙ sym edit_is);
        over = omega (arith, t.2);
        error = error ∙ ap (λ (n : ℕ). Overlap n edit.number) t.3;
      })
      spanning.stops

-- ---- where edits lie

module _ (old : List ℕ) where
  pub at_first : IsPlace old 0
  at_first = (0, omega arith, refl, refl)

  pub at_index : (place : ℕ) (w : IsPlace old place) → index_of old place ≡ w.0
  at_index place w = ap (index_of old) (sym w.3) ∙ index_of-place old w.0 w.1

  pub at_whole : (place : ℕ) → IsPlace old place → splits_crlf old (index_of old place) ≡ false
  at_whole place w = ap (splits_crlf old) (at_index place w) ∙ w.2

  pub at_within : (place : ℕ) → IsPlace old place → index_of old place ≤ length old
  at_within place w = omega (arith, at_index place w, w.1)

module _ (before : List ℕ) (utf8 : IsUtf8 before) where
  at_boundary : (place : ℕ) → IsPlace (chars before) place → IsCharBoundary before place
  at_boundary place w = subst (IsCharBoundary before) w.3 (place_boundary before w.0 utf8 w.1)

  end_place : place_of (chars before) (length (chars before)) ≡ length before
  end_place = place_end (chars before) ∙ ap length (encodes-chars before utf8)

  at_end : IsPlace (chars before) (length before)
  at_end = (
    length (chars before),
    omega arith,
    splits_none_past (chars before) (length (chars before)) (omega arith),
    end_place,
  )

  old_are : (from to : ℕ) → IsPlace (chars before) from → IsPlace (chars before) to
      → AreParts before (old_parts from to)
  old_are from to a b = grind (arith, common_steps, nat_lt, ltb-true, at_boundary, cases_Bool)

  pub left_are : (low : ℕ) (edits : List Placed) → IsPlace (chars before) low
      → AllByRecursion (Lies (chars before)) edits → AreParts before (parts_left (length before) low edits)
  left_are low [] at all = old_are low (length before) at at_end
  left_are low (e ∷ edits) at all =
      grind (arith, common_steps, are_both, old_are, new_items, (left_are e.stop edits all.0.at_stop all.1))
