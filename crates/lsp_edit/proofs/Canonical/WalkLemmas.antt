-- The canonical batch of parts, written in one pass over them.
use Rattle.lsp_edit.proofs.Prelude.{inl, inr, gap_at, change_at, ℕ, suc, ◌≡◌, ◌+◌, ◌<◌, ◌≤◌, ◌⊎◌, true, false, nat_lt, List, [], ◌∷◌, ◌++◌, length, map, reverse, filter, refl, sym, ap, ap₂, ◌∙◌, subst, arith, append_assoc, append-nil, encode_utf8_all, IsCharBoundary, ⊎_elim, lt-ltb, le-ltb, zero, Some, String, string_bytes, string_len, ◌==◌, eqb-true, chars, IsUtf8, cases_Bool, or_left, or_right, or_from, cases_lt, eqb-false, map-append, nil_from_length, reverse-append, encodes-chars, chars-append, chars-nil, IsUtf8-string_bytes, IsCharBoundary-start, IsCharBoundary-end, place_of, numbers_from, splits_crlf, IsPlace, Position, exact_position, Change, content_change, Item, Old, New, ContentChange, Gap, gaps_from, gaps, is_changed, change_of_gap, gap_between, HasExactEnds, Part, OldPart, NewPart, index_of, items_of, AreParts, common_steps, Keeps, next_is}
use Rattle.lsp_edit.proofs.Composing.EditedLemmas.{index_last}
use Rattle.lsp_edit.proofs.Parts.IndexLemmas.{index_place, index_rises, indexes_less, index_first, IsOldRow, old_row}
use Rattle.lsp_edit.proofs.Canonical.GapLemmas.{ends_from}

-- the changes of gaps, from the first to the last
abbrev pub changes_of : (ℕ → ℕ) → List ℕ → List Gap → List ContentChange
changes_of units old gs = map (change_of_gap units old) (filter is_changed gs)

pub changes_of-cons : (units : ℕ → ℕ) (old : List ℕ) (g : Gap) (gs : List Gap) → changes_of units old (g ∷ gs)
    ≡ change_at units old g ++ changes_of units old gs
changes_of-cons units old g gs = grind (arith, common_steps, cases_Bool)

-- The change of a gap, as it is written.
pub gap_one : (units : ℕ → ℕ) (old : List ℕ) (low high : ℕ) (text : List ℕ) (changes : List Change) (change : Change)
    (start stop : Position) → is_changed (gap_at low high text) ≡ true
    → change.range ≡ Some (record { start = start; stop = stop }) → chars (string_bytes change.text) ≡ text
    → start ≡ exact_position units old low → stop ≡ exact_position units old high
    → map content_change (changes ++ change ∷ []) ≡ map content_change changes
    ++ change_at units old (gap_at low high text)
gap_one units old low high text changes change start stop changed range own at_start at_stop =
    let e : content_change change ≡ change_of_gap units old (gap_at low high text) =
    grind (arith, common_steps, ap₂) in
    map-append content_change changes (change ∷ [])
    ∙ rw changed (ap (λ (x : ContentChange). map content_change changes ++ x ∷ []) e)

-- A gap that isn't changed adds nothing.
gap_unchanged : (before : List ℕ) (low high : ℕ) (text : List ℕ) → high ≤ low → length text ≡ 0
    → is_changed (gap_between before low high text) ≡ false
gap_unchanged before low high text falls none =
    grind (arith, common_steps, nil_from_length, chars-nil, or_from, nat_lt, le-ltb, index_rises)

pub gap_skipped : (before : List ℕ) (units : ℕ → ℕ) (low high : ℕ) (changes : List Change) (text : List ℕ) → high ≤ low
    → length text ≡ 0 → map content_change changes
    ≡ map content_change changes ++ change_at units (chars before) (gap_between before low high text)
gap_skipped before units low high changes text falls none =
    rw (gap_unchanged before low high text falls none) (sym (append-nil (map content_change changes)))

pub gap_some : (low high : ℕ) (text : List ℕ) → (low < high) ⊎ (0 < length text)
    → is_changed (gap_at low high text) ≡ true
gap_some low high text some = grind (arith, common_steps, or_left, nat_lt, lt-ltb, or_right)

some_chars : (bytes : List ℕ) → IsUtf8 bytes → 0 < length bytes → 0 < length (chars bytes)
some_chars bytes utf8 some =
    grind (arith, common_steps, cases_lt, nil_from_length, encode_utf8_all, (encodes-chars bytes utf8))

module _ (before : List ℕ) (utf8 : IsUtf8 before) where
  gap_changed : (low high : ℕ) (text : List ℕ) → IsUtf8 text → IsCharBoundary before low → IsCharBoundary before high
      → (low < high) ⊎ (0 < length text) → is_changed (gap_between before low high text) ≡ true
  gap_changed low high text text_utf8 at_low at_high changed =
      gap_some (index_of (chars before) low) (index_of (chars before) high) (chars text)
      (⊎_elim
      (λ (less : low < high). inl (indexes_less before utf8 low high at_low at_high less))
      (λ (some : 0 < length text). inr (some_chars text text_utf8 some))
      changed)

  position_exact : (units : ℕ → ℕ) (place : ℕ) (p : Position) → IsCharBoundary before place
      → ((k : ℕ) → k ≤ length (chars before) → place_of (chars before) k ≡ place
      → p ≡ exact_position units (chars before) k) → p ≡ exact_position units (chars before)
      (index_of (chars before) place)
  position_exact units place p at exact =
      let a = index_place before utf8 place at in exact (index_of (chars before) place) a.1 a.0

  -- What a gap adds to the changes.
  pub gap_put : (units : ℕ → ℕ) (low high : ℕ) (changes : List Change) (change : Change) (start stop : Position)
      → IsCharBoundary before low → IsCharBoundary before high → (low < high) ⊎ (0 < length (string_bytes change.text))
      → change.range ≡ Some (record { start = start; stop = stop })
      → ((k : ℕ) → k ≤ length (chars before) → place_of (chars before) k ≡ low
      → start ≡ exact_position units (chars before) k)
      → ((k : ℕ) → k ≤ length (chars before) → place_of (chars before) k ≡ high
      → stop ≡ exact_position units (chars before) k)
      → map content_change (changes ++ change ∷ []) ≡ map content_change changes
      ++ change_at units (chars before) (gap_between before low high (string_bytes change.text))
  gap_put units low high changes change start stop at_low at_high changed range low_exact high_exact =
      gap_one units (chars before) (index_of (chars before) low) (index_of (chars before) high)
      (chars (string_bytes change.text)) changes change start stop
      (gap_changed low high (string_bytes change.text) (IsUtf8-string_bytes change.text) at_low at_high changed) range
      refl (position_exact units low start at_low low_exact) (position_exact units high stop at_high high_exact)

-- whether a text has bytes
pub text_some : {Z : Type 0} (text : String Z) → false ≡ (string_len text == 0) → 0 < length (string_bytes text)
text_some text e = grind (arith, common_steps, string_bytes, eqb-false, string_len, cases_lt)

pub text_none : {Z : Type 0} (text : String Z) → true ≡ (string_len text == 0) → length (string_bytes text) ≡ 0
text_none text e = sym text.bytes.ok.0 ∙ eqb-true (string_len text) 0 (sym e)

-- How far the changes of items were written: those of the items that are left complete them.
pub record Writes (units : ℕ → ℕ) (old : List ℕ) (all made : List ContentChange) (low : ℕ) (text : List ℕ)
    (rest : List Item) : Type 0 where
  pub error : made ++ changes_of units old (gaps_from low (length old) text rest) ≡ all
  pub keeps : Keeps old low rest
  pub whole : 0 < length text → splits_crlf old low ≡ false

module _ (units : ℕ → ℕ) (old : List ℕ) (all : List ContentChange) where
  module _ (made : List ContentChange) (low : ℕ) (text : List ℕ) (rest : List Item)
      (writes : Writes units old all made low text rest) where
    pub write_new : (character : ℕ) (more : List Item) → rest ≡ New character ∷ more
        → Writes units old all made low (text ++ character ∷ []) more
    write_new character more is =
        let here : Writes units old all made low text (New character ∷ more) =
        subst (Writes units old all made low text) is writes in
        record { error = here.error; keeps = here.keeps.1; whole = λ some. here.keeps.0 }

    pub write_old : (index next : ℕ) (more : List Item) → rest ≡ Old index ∷ more → next ≡ suc index
        → Writes units old all (made ++ change_at units old (gap_at low index text)) next [] more
    write_old index next more is next_is =
        let here : Writes units old all made low text (Old index ∷ more) =
        subst (Writes units old all made low text) is writes in
        let gap : Gap = gap_at low index text in
        let after : List Gap = gaps_from (suc index) (length old) [] more in
        rw next_is (record {
          error = append_assoc made (change_at units old gap) (changes_of units old after)
              ∙ (ap (λ (cs : List ContentChange). made ++ cs) (sym (changes_of-cons units old gap after)) ∙ here.error);
          keeps = here.keeps.3;
          whole = λ some. absurd (omega arith);
        })

    pub write_end : rest ≡ [] → made ++ change_at units old (gap_at low (length old) text) ≡ all
    write_end is =
        let gap : Gap = gap_at low (length old) text in
        ap (λ (cs : List ContentChange). made ++ cs)
        (sym (changes_of-cons units old gap [] ∙ append-nil (change_at units old gap)))
        ∙ (subst (Writes units old all made low text) is writes).error

  write_news : (made : List ContentChange) (low : ℕ) (text characters : List ℕ) (rest : List Item)
      → Writes units old all made low text (map New characters ++ rest)
      → Writes units old all made low (text ++ characters) rest
  write_news made low text [] rest writes =
      subst (λ (t : List ℕ). Writes units old all made low t rest) (sym (append-nil text)) writes
  write_news made low text (c ∷ characters) rest writes =
      subst (λ (t : List ℕ). Writes units old all made low t rest) (append_assoc text (c ∷ []) characters)
      (write_news made low (text ++ c ∷ []) characters rest
      (write_new made low text (New c ∷ (map New characters ++ rest)) writes c (map New characters ++ rest) refl))

  -- Gaps inside a row of kept characters aren't changed.
  write_row : (made : List ContentChange) (low count : ℕ) (rest : List Item)
      → Writes units old all made low [] (map Old (numbers_from low count) ++ rest)
      → Writes units old all made (low + count) [] rest
  write_row made low zero rest writes = let e : low ≡ low + 0 = omega arith in
      subst (λ (n : ℕ). Writes units old all made n [] rest) e writes
  write_row made low (suc count) rest writes =
      let e : suc low + count ≡ low + suc count = omega arith in
      let none : made ++ change_at units old (gap_at low low []) ≡ made =
      rw (le-ltb low low (omega arith)) (append-nil made) in
      subst (λ (n : ℕ). Writes units old all made n [] rest) e (write_row made (suc low) count rest
      (subst (λ (m : List ContentChange). Writes units old all m (suc low) []
      (map Old (numbers_from (suc low) count) ++ rest)) none
      (write_old made low [] (Old low ∷ (map Old (numbers_from (suc low) count) ++ rest)) writes low (suc low)
      (map Old (numbers_from (suc low) count) ++ rest) refl refl)))

-- How far the changes of parts were written.
pub record Walks (units : ℕ → ℕ) (before : List ℕ) (all made : List ContentChange) (low : ℕ) (text : List ℕ)
    (parts : List Part) : Type 0 where
  pub writes : Writes units (chars before) all made (index_of (chars before) low) (chars text)
      (items_of (chars before) parts)
  pub at : IsCharBoundary before low
  pub are : AreParts before parts

module _ (units : ℕ → ℕ) (before : List ℕ) (utf8 : IsUtf8 before) where
  place_is : (place : ℕ) → IsCharBoundary before place → splits_crlf (chars before) (index_of (chars before) place)
      ≡ false → IsPlace (chars before) place
  place_is place at whole =
      let a = index_place before utf8 place at in (index_of (chars before) place, a.1, whole, a.0)

  module _ (all made : List ContentChange) (low : ℕ) (text : List ℕ) (text_utf8 : IsUtf8 text) (rest : List Part)
      (walks : Walks units before all made low text rest) where
    -- behind a part of a new text
    pub walk_new : (bytes : List ℕ) (more : List Part) → rest ≡ NewPart bytes ∷ more
        → Walks units before all made low (text ++ bytes) more
    walk_new bytes more is =
        let here = subst (Walks units before all made low text) is walks in
        record {
          writes = rw (chars-append text bytes text_utf8)
              (write_news units (chars before) all made (index_of (chars before) low) (chars text) (chars bytes)
              (items_of (chars before) more) here.writes);
          at = here.at;
          are = here.are.1;
        }

    -- behind a part of the old text
    module _ (from to : ℕ) (more : List Part) (is : rest ≡ OldPart from to ∷ more) where
      here : Walks units before all made low text (OldPart from to ∷ more)
      here = subst (Walks units before all made low text) is walks

      row : IsOldRow before from to
      row = old_row before utf8 from to here.are.0

      abbrev after_first : List Item
      after_first = map Old (numbers_from (suc (index_of (chars before) from)) row.count)
          ++ items_of (chars before) more

      first : Writes units (chars before) all made (index_of (chars before) low) (chars text)
          (Old (index_of (chars before) from) ∷ after_first)
      first = subst (λ (i : List Item). Writes units (chars before) all made (index_of (chars before) low) (chars text)
          (i ++ items_of (chars before) more)) row.items here.writes

      pub walk_old : Walks units before all (made ++ change_at units (chars before)
          (gap_between before low from text)) to [] more
      walk_old = record {
        writes = rw (chars-nil, ← row.last)
            (write_row units (chars before) all _ (suc (index_of (chars before) from)) row.count
            (items_of (chars before) more)
            (write_old units (chars before) all made _ _ _ first (index_of (chars before) from)
            (suc (index_of (chars before) from)) after_first refl refl));
        at = here.are.0.2;
        are = here.are.1;
      }

      pub walk_old_ends : (low < from) ⊎ (0 < length text) → IsPlace (chars before) low × IsPlace (chars before) from
      walk_old_ends changed =
          let e : HasExactEnds (chars before) (gap_between before low from text) =
          (ends_from (chars before) (index_of (chars before) low) (chars text)
          (Old (index_of (chars before) from) ∷ after_first) first.whole first.keeps).0
          (gap_changed before utf8 low from text text_utf8 here.at here.are.0.1 changed) in
          (place_is low here.at e.low_whole, place_is from here.are.0.1 e.high_whole)

    -- at the end
    module _ (is : rest ≡ []) where
      last : Walks units before all made low text []
      last = subst (Walks units before all made low text) is walks

      last_gap : gap_at (index_of (chars before) low) (length (chars before)) (chars text)
          ≡ gap_between before low (length before) text
      last_gap = ap (λ (n : ℕ). gap_at (index_of (chars before) low) n (chars text)) (sym (index_last before utf8))

      pub walk_end : made ++ change_at units (chars before) (gap_between before low (length before) text) ≡ all
      walk_end =
          ap (λ (g : Gap). made ++ change_at units (chars before) g) (sym last_gap)
          ∙ write_end units (chars before) all made _ _ [] last.writes refl

      pub walk_end_ends : (low < length before) ⊎ (0 < length text) → IsPlace (chars before) low
          × IsPlace (chars before) (length before)
      walk_end_ends changed =
          let at_end : IsCharBoundary before (length before) = IsCharBoundary-end before in
          let e : HasExactEnds (chars before) (gap_between before low (length before) text) =
          subst (λ (g : Gap). is_changed g ≡ true → HasExactEnds (chars before) g) last_gap
          (ends_from (chars before) (index_of (chars before) low) (chars text) [] last.writes.whole
          last.writes.keeps).0 (gap_changed before utf8 low (length before) text text_utf8 last.at at_end changed) in
          (place_is low last.at e.low_whole, place_is (length before) at_end e.high_whole)

-- What was written, turned round, is the canonical batch.
pub walk_begins : (units : ℕ → ℕ) (before : List ℕ) → IsUtf8 before → (parts : List Part) → AreParts before parts
    → Keeps (chars before) 0 (items_of (chars before) parts)
    → Walks units before (changes_of units (chars before) (gaps (chars before) (items_of (chars before) parts))) [] 0 []
    parts
walk_begins units before utf8 parts are keeps = record {
  writes = rw (index_first (chars before), chars-nil)
      (record { error = refl; keeps = keeps; whole = λ some. absurd (omega arith) });
  at = IsCharBoundary-start before utf8;
  are = are;
}

pub walk_turned : (changes : List Change) → map content_change (reverse changes) ≡ reverse (map content_change changes)
walk_turned [] = refl
walk_turned (change ∷ changes) = grind (arith, common_steps, reverse-append, map-append, reverse, (walk_turned changes))
