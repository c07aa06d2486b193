-- What was resolved once, read again.
use Rattle.lsp_edit.proofs.Prelude.{ℕ, ◌≡◌, ◌+◌, ◌-◌, ◌<◌, ◌≤◌, List, [], ◌++◌, length, map, take, drop, refl, sym, ap, ap₂, ◌∙◌, arith, append-nil, take-map, drop-map, flat_map-append, lt-ltb, le-ltb, ⊎_elim, nat_lt, Result, Ok, Err, cases_Bool, cases_lt, ltb-false, IsCharBoundary, IsCharBoundary-start, IsCharBoundary-end, is_utf8-from_IsUtf8, numbers_from, Encoding, units_in, Item, Old, plain, ContentChange, Fault, meaning, canonical, IsDeltaOf, IsLeft, IsOn, IsPut, IsLayer, AreResolved, Part, OldPart, index_of, items_in, items_of, AreParts, new_parts, old_parts, put_between_parts, bytes_after, delta_encoding, meant_by, put_items, content_change, IsCanonicalBatch, alone, bytes_left, text_within, common_steps, Keeps, Change}
use Rattle.std.specs.Str.{IsUtf8, chars}
use Rattle.lsp_edit.specs.declared.delta.Delta.{Delta}
use Rattle.lsp_edit.specs.declared.delta.Delta.TheVariants.{Put, Left}
use Rattle.lsp_edit.proofs.Batches.LawLemmas.{canonical_law, units_some}
use Rattle.lsp_edit.proofs.Canonical.KeepsLemmas.{meaning_keeps}
use Rattle.lsp_edit.proofs.Composing.EditedLemmas.{index_last}
use Rattle.lsp_edit.proofs.Parts.CutLemmas.{drop_numbers, take_numbers}
use Rattle.lsp_edit.proofs.Parts.IndexLemmas.{index_first, index_place}
use Rattle.lsp_edit.proofs.Parts.PutLemmas.{are_both, new_items}
use Rattle.lsp_edit.proofs.Deltas.InPlaceLemmas.{IsInPlace, in_place, range_means}

-- A text that is within a limit is what a batch leaves.
pub record IsWithin (before : List ℕ) (meant : Result (List Item) (ℕ × Fault)) (left : List ℕ) : Type 0 where
  pub items : List Item
  pub means : meant ≡ Ok items
  pub is : left ≡ bytes_left before items

pub within_told : (max_len : ℕ) (before : List ℕ) (meant : Result (List Item) (ℕ × Fault)) (left : List ℕ)
    → text_within max_len before meant ≡ Ok left → IsWithin before meant left
within_told max_len before (Err fault) left e = absurd (cc)
within_told max_len before (Ok items) left e = grind (arith, common_steps, nat_lt, cases_Bool)

pub within_fits : (max_len : ℕ) (before : List ℕ) (meant : Result (List Item) (ℕ × Fault)) (left : List ℕ)
    → text_within max_len before meant ≡ Ok left → length left ≤ max_len
within_fits max_len before (Err fault) left e = absurd (cc)
within_fits max_len before (Ok items) left e = grind (arith, common_steps, nat_lt, ltb-false, cases_Bool)

module _ (units : ℕ → ℕ) (before : List ℕ) (start stop : ℕ) (new : List ℕ) (p : IsPut units before start stop new) where
  pub put_in : IsInPlace units before p.range new start stop
  put_in = in_place units before p.utf8 p.range new p.new_utf8 start stop p.places

  -- The parts of the text with the new one put between them.
  pub put_layer : (len : ℕ) (parts : List Part) → len ≡ length before → parts ≡ put_between_parts len start stop new
      → IsLayer (Ok (put_items before start stop new)) before parts
  put_layer len parts len_is is =
      let old : List ℕ = chars before in
      let low : ℕ = index_of old start in
      let high : ℕ = index_of old stop in
      let n = new_items before new (is_utf8-from_IsUtf8 new p.new_utf8) in
      let a = rows 0 start (omega arith) (IsCharBoundary-start before p.utf8) put_in.at_start in
      let b = rows stop (length before) put_in.at_stop.0 put_in.at_stop (IsCharBoundary-end before) in
      let low_in = (index_place before p.utf8 start put_in.at_start).1 in
      let high_in = (index_place before p.utf8 stop put_in.at_stop).1 in
      let first : low - index_of old 0 ≡ low = omega (arith, index_first old) in
      let front : items_of old (old_parts 0 start) ≡ take low (plain old) =
      a.0 ∙ (rw (first, index_first old) (ap (map Old) (sym (take_numbers 0 low (length old - low)))
      ∙ (sym (take-map Old low (numbers_from 0 (low + (length old - low))))
      ∙ ap (λ (k : ℕ). take low (map Old (numbers_from 0 k))) (omega (arith, low_in))))) in
      let none : 0 + high ≡ high = omega arith in
      let back : items_of old (old_parts stop (length before)) ≡ drop high (plain old) =
      b.0 ∙ (rw (index_last before p.utf8) (ap (map Old) (sym (rw none at (drop_numbers 0 high (length old - high))))
      ∙ (sym (drop-map Old high (numbers_from 0 (high + (length old - high))))
      ∙ ap (λ (k : ℕ). drop high (map Old (numbers_from 0 k))) (omega (arith, high_in))))) in
      rw (is, len_is) (record {
        utf8 = p.utf8;
        are = are_both before (old_parts 0 start) (new_parts new ++ old_parts stop (length before)) a.1
            (are_both before (new_parts new) (old_parts stop (length before)) n.1 b.1);
        means = ap (λ (i : List Item). Ok i) (sym (flat_map-append (items_in old) (old_parts 0 start)
            (new_parts new ++ old_parts stop (length before))
            ∙ ap₂ (λ (x y : List Item). x ++ y) front (flat_map-append (items_in old) (new_parts new)
            (old_parts stop (length before)) ∙ ap₂ (λ (x y : List Item). x ++ y) n.0 back)));
      })
    where
      rows : (from to : ℕ) → from ≤ to → IsCharBoundary before from → IsCharBoundary before to
          → (items_of (chars before) (old_parts from to) ≡ map Old (numbers_from (index_of (chars before) from)
          (index_of (chars before) to - index_of (chars before) from))) × AreParts before (old_parts from to)
      rows from to order at_from at_to =
          ⊎_elim
          (λ (less : from < to). rw (lt-ltb from to less) (
            append-nil (items_in (chars before) (OldPart from to)),
            ((less, at_from, at_to), tt),
          ))
          (λ (same : to ≤ from).
          let e : from ≡ to = omega arith in
          let none : index_of (chars before) to - index_of (chars before) from ≡ 0 =
          omega (arith, ap (index_of (chars before)) e) in
          rw (le-ltb from to same, none) (refl, tt))
          (cases_lt from to)

-- What a delta means keeps each CRLF of the text whole.
pub delta_keeps : (before : List ℕ) (delta : Delta) (items : List Item) → IsOn before delta
    → meant_by before delta ≡ Ok items → Keeps (chars before) 0 items
delta_keeps before (Put put) items on means =
    meaning_keeps (chars before) (units_in put.encoding) (alone on.range put.new.now) items
    (range_means (units_in put.encoding) before on.utf8 on.range put.new.now on.new_utf8 put.start put.stop on.places
    ∙ means)
delta_keeps before (Left left) items on means =
    meaning_keeps (chars before) (units_in left.encoding) (map content_change left.changes.now) items means

-- A delta is of a text in UTF-8.
on_utf8 : (before : List ℕ) (delta : Delta) → IsOn before delta → IsUtf8 before
on_utf8 before (Put put) on = on.utf8
on_utf8 before (Left left) on = on.utf8

-- The ends of a delta's ranges are known.
pub left_resolved : (units : ℕ → ℕ) (before : List ℕ) (len : ℕ) (changes : List Change) (ends : List (ℕ × ℕ))
    (left : List ℕ) → len ≡ length before → IsLeft units before changes ends left
    → AreResolved units before len changes ends
left_resolved units before len changes ends left is on = record {
  utf8 = on.utf8;
  len_is = is;
  room = omega (arith, is, on.size, on.fits);
  ends_are = on.ends_are;
}

-- The canonical batch of a delta's items, whatever list they are known as.
pub canonical_same : (before : List ℕ) {known : List Item} {answered : List ContentChange} (delta : Delta)
    → meant_by before delta ≡ Ok known
    → answered ≡ canonical (units_in (delta_encoding delta)) (chars before) known
    → (items : List Item) → meant_by before delta ≡ Ok items
    → answered ≡ canonical (units_in (delta_encoding delta)) (chars before) items
canonical_same before {known} {answered} delta means same items is =
    let both : ◌≡◌ {A = Result (List Item) (ℕ × Fault)} (Ok known) (Ok items) = sym means ∙ is in
    let e : known ≡ items = cc in
    same ∙ ap (canonical (units_in (delta_encoding delta)) (chars before)) e

-- The canonical batch of a delta is that of its batch.
pub canonical_is : (encoding : Encoding) (max_len : ℕ) (before : List ℕ) (batch answered : List ContentChange)
    (delta : Delta) → IsDeltaOf (units_in encoding) max_len before batch delta
    → ((items : List Item) → meant_by before delta ≡ Ok items → answered
    ≡ canonical (units_in (delta_encoding delta)) (chars before) items)
    → IsCanonicalBatch (units_in encoding) max_len before batch answered
canonical_is encoding max_len before batch answered delta of same =
    let w : IsWithin before (meaning (units_in encoding) (chars before) batch) (bytes_after before delta)
    = within_told max_len before (meaning (units_in encoding) (chars before) batch) (bytes_after before delta) of.is in
    record {
      utf8 = on_utf8 before delta of.on;
      items = w.items;
      means = w.means;
      within = grind (arith, common_steps, within_fits);
      is = rw of.units_are at (same w.items (sym of.means ∙ w.means));
      law = canonical_law (units_in encoding) (units_some encoding) (chars before);
    }
