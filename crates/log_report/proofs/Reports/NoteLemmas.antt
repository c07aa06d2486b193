-- What is noted of a message.
use Rattle.log_report.proofs.Prelude.{◌≡◌, ℕ, ◌+◌, ◌-◌, ◌<◌, ◌≤◌, ⊎_elim, Bool, true, false, List, [], ◌∷◌, ◌++◌, length, map, Option, Some, None, refl, sym, ap, ap₂, ◌∙◌, arith, append-nil, option_map, encode_utf8_all, get_or, le-leb, nat_lt, string_bytes, string_len, Result, Ok, Err, flat_map, slice_range, replace_range, le-ltb, lt-ltb, bytes_eq-Decides, IsUtf8-string_bytes, encodes-chars, Position, Range, Change, ContentChange, Fault, InsideStart, meaning, ends_of, content_change, fault_at, places_at, alone, batch_fault_of, text_within, EditFault, content_change_view, content_change_from_data, Note, Terms, batch_notes, change_notes, left_by, note_words, if_left, notes_from, replaced_by, taken_as, common_steps}
use Rattle.std.specs.Result.{result_ok}
use Rattle.std.specs.Str.{IsCharBoundary, IsUtf8, bytes_eq, chars}
use Rattle.lsp_text.specs.Positions.{denoted, exact_position}
use Rattle.lsp_text.specs.Text.{place_of}
use Rattle.lsp_text.proofs.Positions.PositionLemmas.{denoted_whole}
use Rattle.lsp_text.proofs.Positions.ResolveLemmas.{chars_part}
use Rattle.lsp_buffer.proofs.Changes.ChangeLemmas.{replaced_length}
use Rattle.lsp_edit.specs.Items.{New, text_of}
use Rattle.lsp_edit.specs.declared.indexed.fault.BatchFault.{BatchFault}
use Rattle.lsp_edit.specs.declared.indexed.fault.BatchFault.TheVariants.{NoMemory}
use Rattle.lsp_edit.proofs.Composing.AppliedLemmas.{ends_told}
use Rattle.lsp_edit.proofs.Deltas.InPlaceLemmas.{range_fault, range_too_long, range_within}
use Rattle.lsp_edit.proofs.Parts.CutLemmas.{text_of-new}

-- ---- a position

module _ (units : ℕ → ℕ) (text : List ℕ) (p : Position) where
  pub taken_is : (offset : ℕ) (taken : Position) → Some offset ≡ option_map (place_of text) (denoted units text p)
      → ((k : ℕ) → k ≤ length text → place_of text k ≡ offset → taken ≡ exact_position units text k)
      → Some taken ≡ taken_as units text p
  taken_is offset taken is exact = by (denoted units text p) refl is
    where
      by : (found : Option ℕ) → denoted units text p ≡ found → Some offset ≡ option_map (place_of text) found
          → Some taken ≡ option_map (exact_position units text) found
      by None e at = absurd (cc)
      by (Some k) e at =
          let whole = denoted_whole units text p k e in
          let same : offset ≡ place_of text k = cc in
          ap (λ (q : Position). Some q) (exact k whole.within (sym same))

-- ---- what a change replaces

module _ (units : ℕ → ℕ) (bytes : List ℕ) (range : Range) where
  abbrev text : List ℕ
  text = chars bytes

  pub part_is : (start stop : ℕ) → IsUtf8 bytes → Ok (start, stop) ≡ places_at 0 text (ends_of units text range)
      → Some (chars (slice_range bytes start stop)) ≡ replaced_by units text (Some range)
  part_is start stop utf8 is =
      let e = ends_told units text range 0 start stop is in
      let found : ends_of units text range ≡ Ok (e.low, e.high) =
      rw (e.low_is, e.high_is, le-leb e.low e.high e.order) refl in
      let part : chars (slice_range bytes start stop) ≡ slice_range text e.low e.high
      = ap₂ (λ (a b : ℕ). chars (slice_range bytes a b)) (sym e.start_is) (sym e.stop_is)
      ∙ chars_part bytes e.low e.high utf8 e.order e.within in
      rw found (ap (λ (t : List ℕ). Some t) part)

  -- an end denotes nothing, or the range is reversed
  pub no_part : (fault : EditFault) → Err fault ≡ places_at 0 text (ends_of units text range)
      → replaced_by units text (Some range) ≡ None
  no_part fault is = grind (arith, common_steps)

-- Two texts have the same characters exactly where they have the same bytes.
pub same_chars : (a b : List ℕ) → IsUtf8 a → IsUtf8 b → bytes_eq (chars a) (chars b) ≡ bytes_eq a b
same_chars a b utf8_a utf8_b = by (bytes_eq (chars a) (chars b)) (bytes_eq a b) refl refl
  where
    by : (x y : Bool) → bytes_eq (chars a) (chars b) ≡ x → bytes_eq a b ≡ y → x ≡ y
    by true true p q = refl
    by false false p q = refl
    by true false p q =
        let same : chars a ≡ chars b = (bytes_eq-Decides (chars a) (chars b)).0 p in
        let bytes : a ≡ b = sym (encodes-chars a utf8_a) ∙ ap encode_utf8_all same ∙ encodes-chars b utf8_b in
        let equal : bytes_eq a b ≡ true = (bytes_eq-Decides a b).1 bytes in
        absurd (cc)
    by false true p q = grind (arith, common_steps, bytes_eq-Decides)

-- ---- the changes of a message

-- The text of a change has the bytes of its characters.
long_text : (change : Change) → length (encode_utf8_all (chars (string_bytes change.text))) ≡ string_len change.text
long_text change = ap length (encodes-chars (string_bytes change.text) (IsUtf8-string_bytes change.text))
    ∙ sym change.text.bytes.ok.0

module _ (units : ℕ → ℕ) (text : List ℕ) (change : Change) where
  pub nothing_left : 1073741824 < string_len change.text → left_by units text (content_change change) ≡ None
  nothing_left long = grind (arith, common_steps, nat_lt, encode_utf8_all, string_bytes, lt-ltb, long_text)

  left_of : string_len change.text ≤ 1073741824 → left_by units text (content_change change)
      ≡ result_ok (text_within 1073741824 text (meaning units (chars text) (content_change change ∷ [])))
  left_of fits = grind (arith, common_steps, nat_lt, encode_utf8_all, string_bytes, le-ltb, long_text)

  -- a whole text is what is left
  pub all_left : (new : List ℕ) → string_len change.text ≤ 1073741824 → change.range ≡ None
      → new ≡ string_bytes change.text → left_by units text (content_change change) ≡ Some new
  all_left new fits whole is =
      let same : encode_utf8_all (text_of (chars text) (map New (chars (string_bytes change.text))))
      ≡ string_bytes change.text =
      ap encode_utf8_all (text_of-new (chars text) (chars (string_bytes change.text)))
      ∙ encodes-chars (string_bytes change.text) (IsUtf8-string_bytes change.text) in
      let short : nat_lt 1073741824 (length (string_bytes change.text)) ≡ false =
      le-ltb 1073741824 (length (string_bytes change.text)) (omega (arith, fits, change.text.bytes.ok.0)) in
      left_of fits ∙ rw (whole, same, short) (ap (λ (t : List ℕ). Some t) (sym is))

  -- what a range leaves
  pub range_left : (range : Range) (left : Option (List ℕ)) → string_len change.text ≤ 1073741824
      → change.range ≡ Some range
      → result_ok (text_within 1073741824 text (meaning units (chars text) (alone range (string_bytes change.text))))
      ≡ left → left_by units text (content_change change) ≡ left
  range_left range left fits ranged is = left_of fits ∙ rw ranged is

-- ---- a range and its text

module _ (units : ℕ → ℕ) (text : List ℕ) (utf8 : IsUtf8 text) (range : Range) (new : List ℕ)
    (new_utf8 : IsUtf8 new) where
  no_memory : (number : ℕ) (why : Fault) → batch_fault_of (fault_at number why) ≡ NoMemory → ⊥
  no_memory number InsideStart is = absurd (cc)
  no_memory number _ is = absurd (cc)

  pub no_range_left : replaced_by units (chars text) (Some range) ≡ None
      → result_ok (text_within 1073741824 text (meaning units (chars text) (alone range new))) ≡ None
  no_range_left none = by (ends_of units (chars text) range) refl
    where
      by : (ends : Result (ℕ × ℕ) Fault) → ends_of units (chars text) range ≡ ends
          → result_ok (text_within 1073741824 text (meaning units (chars text) (alone range new))) ≡ None
      by (Ok ends) e = absurd (let wrong : Some (slice_range (chars text) ends.0 ends.1) ≡ None = rw e at none in cc)
      by (Err why) e =
          ⊎_elim
          (λ (m : batch_fault_of (fault_at 0 why) ≡ NoMemory). absurd (no_memory 0 why m))
          (λ (is : text_within 1073741824 text (meaning units (chars text) (alone range new))
          ≡ Err (batch_fault_of (fault_at 0 why))). ap (λ (r : Result (List ℕ) BatchFault). result_ok r) is)
          (range_fault units text utf8 range new new_utf8 1073741824 (fault_at 0 why)
          (rw e refl))

  module _ (start stop : ℕ) (places : Ok (start, stop)
      ≡ places_at 0 (chars text) (ends_of units (chars text) range)) (order : start ≤ stop)
      (at_start : IsCharBoundary text start) (at_stop : IsCharBoundary text stop) where
    abbrev longer : ℕ
    longer = length text - (stop - start) + length new

    len : length (replace_range text start stop new) ≡ longer
    len = replaced_length text new start stop order at_stop.0

    pub range_put : longer ≤ 1073741824
        → result_ok (text_within 1073741824 text (meaning units (chars text) (alone range new)))
        ≡ Some (replace_range text start stop new)
    range_put fits = ap (λ (r : Result (List ℕ) BatchFault). result_ok r)
        (range_within units text utf8 range new new_utf8 start stop places 1073741824 (omega (arith, len, fits)))

    pub range_long : 1073741824 < longer
        → result_ok (text_within 1073741824 text (meaning units (chars text) (alone range new))) ≡ None
    range_long above = ap (λ (r : Result (List ℕ) BatchFault). result_ok r)
        (range_too_long units text utf8 range new new_utf8 start stop places 1073741824 (omega (arith, len, above)))

-- A change, by what the reader returns of it.
pub edits_read : (changes : List Change) → map content_change_from_data (map content_change_view changes)
    ≡ map content_change changes
edits_read [] = refl
edits_read (change ∷ changes) = ap (λ (edits : List ContentChange). content_change change ∷ edits) (edits_read changes)

nothing_after : (left : Option (List ℕ)) → if_left {A = Note} (λ next. []) left ≡ []
nothing_after None = refl
nothing_after (Some next) = refl

one_change : (terms : Terms) (text : List ℕ) (change : ContentChange) → notes_from terms 0 text (change ∷ [])
    ≡ change_notes terms (chars text) 0 change
one_change terms text change =
    ap (λ (notes : List Note). change_notes terms (chars text) 0 change ++ notes)
    (nothing_after (left_by terms.units text change))
    ∙ append-nil (change_notes terms (chars text) 0 change)

pub one_noted : (terms : Terms) (text : List ℕ) (changes : List Change) (change : Change) → length changes ≡ 1
    → change ≡ get_or changes 0 change → batch_notes terms text (map content_change changes)
    ≡ change_notes terms (chars text) 0 (content_change change)
one_noted terms text (first ∷ []) change one is =
    one_change terms text (content_change first) ∙ ap (λ (c : Change). change_notes terms (chars text) 0
    (content_change c)) (sym is)
one_noted terms text _ change one is = absurd (omega (arith, one))

-- How far changes were noted: what there is to note of the rest leads to all.
pub record Noting (terms : Terms) (all : List Note) (index : ℕ) (rest : List Change) (left : List ℕ)
    (notes : List Note) : Type 0 where
  pub noted : notes ++ notes_from terms index left (map content_change rest) ≡ all
  pub size : length left ≤ 1073741824

-- ---- in words

-- How far the notes after the first were written.
abbrev pub Writing : List ℕ → List ℕ → List Note → List ℕ → Type 0
Writing all between rest buffer = buffer ++ flat_map (λ note. between ++ note_words note) rest ≡ all
