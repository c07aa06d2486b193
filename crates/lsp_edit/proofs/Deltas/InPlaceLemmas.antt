-- What a change of a range makes of the bytes of a text, and of its lines.
use Rattle.lsp_edit.proofs.Prelude.{ℕ, ◌≡◌, ◌<◌, ◌≤◌, ◌⊎◌, List, ◌++◌, length, map, take, drop, refl, sym, ap, ◌∙◌, subst, encode_utf8_all, inl, inr, Some, Ok, Err, lt-ltb, le-ltb, encodes-chars, replace_range, Range, EditFault, Item, New, plain, Fault, continue_with, items_after, InsideStart, meaning, ends_of, fault_at, places_at, alone, bytes_left, text_within, batch_fault_of, put_items, Result, put_between, ⊎_elim, index_of}
use Rattle.std.specs.Str.{IsCharBoundary, IsUtf8, chars}
use Rattle.lsp_edit.specs.declared.indexed.fault.BatchFault.TheVariants.{Edit as EditOf, TooLong, NoMemory}
use Rattle.lsp_edit.specs.declared.indexed.fault.BatchFault.{BatchFault}
use Rattle.lsp_edit.specs.declared.fault.EditFault.TheVariants.{NoMemory as EditNoMemory}
use Rattle.lsp_edit.proofs.Composing.AppliedLemmas.{are_replaced, fault_told}
use Rattle.lsp_edit.proofs.Composing.EditedLemmas.{plain_text}

pub fault_edit : (number : ℕ) (why : Fault) → EditOf (fault_at number why) ≡ batch_fault_of (fault_at number why)
fault_edit number InsideStart = refl
fault_edit number why = refl

-- What holds of a text in which a new one replaces the bytes between the ends of a range.
pub record IsInPlace (units : ℕ → ℕ) (before : List ℕ) (range : Range) (new : List ℕ) (start stop : ℕ) : Type 0 where
  pub order : start ≤ stop
  pub at_start : IsCharBoundary before start
  pub at_stop : IsCharBoundary before stop
  pub made : items_after units (chars before) (plain (chars before)) (record { range = Some range; text = chars new })
      ≡ Ok (put_items before start stop new)
  pub bytes : bytes_left before (put_items before start stop new) ≡ replace_range before start stop new

module _ (units : ℕ → ℕ) (before : List ℕ) (utf8 : IsUtf8 before) (range : Range) (new : List ℕ)
    (new_utf8 : IsUtf8 new) where
  module _ (start stop : ℕ)
      (found : Ok (start, stop) ≡ places_at 0 (chars before) (ends_of units (chars before) range)) where
    pub in_place : IsInPlace units before range new start stop
    in_place =
        let same = plain_text (chars before) in
        let encoded = ap encode_utf8_all same ∙ encodes-chars before utf8 in
        let r = are_replaced units (chars before) (plain (chars before)) range new start stop
        (subst IsUtf8 (sym encoded) utf8) new_utf8
        (subst (λ (t : List ℕ). ◌≡◌ {A = Result (ℕ × ℕ) EditFault} (Ok (start, stop))
        (places_at 0 t (ends_of units t range))) (sym same) found) in
        let low = ap (λ (t : List ℕ). index_of t start) (sym same) ∙ r.ends.low_at in
        let high = ap (λ (t : List ℕ). index_of t stop) (sym same) ∙ r.ends.high_at in
        let put_is : put_items before start stop new
        ≡ take r.ends.low (plain (chars before)) ++ (map New (chars new) ++ drop r.ends.high (plain (chars before)))
        = rw (low, high) refl in
        record {
          order = r.order;
          at_start = subst (λ (bytes : List ℕ). IsCharBoundary bytes start) encoded r.at_start;
          at_stop = subst (λ (bytes : List ℕ). IsCharBoundary bytes stop) encoded r.at_stop;
          made = r.made ∙ ap (λ (i : List Item). Ok i) (sym put_is);
          bytes = ap (bytes_left before) put_is
              ∙ (r.bytes ∙ ap (λ (bs : List ℕ). replace_range bs start stop new) encoded);
        }

    pub range_means : meaning units (chars before) (alone range new) ≡ Ok (put_items before start stop new)
    range_means = ap (continue_with (λ made. Ok made) 0) in_place.made

    pub range_within : (max_len : ℕ) → length (replace_range before start stop new) ≤ max_len
        → text_within max_len before (meaning units (chars before) (alone range new))
        ≡ Ok (replace_range before start stop new)
    range_within max_len fits =
        rw (range_means, in_place.bytes, le-ltb max_len (length (replace_range before start stop new)) fits) refl

    pub range_too_long : (max_len : ℕ) → max_len < length (replace_range before start stop new)
        → text_within max_len before (meaning units (chars before) (alone range new)) ≡ Err TooLong
    range_too_long max_len above =
        rw (range_means, in_place.bytes, lt-ltb max_len (length (replace_range before start stop new)) above) refl

  pub range_fault : (max_len : ℕ) (fault : EditFault) → Err fault ≡ places_at 0 (chars before)
      (ends_of units (chars before) range)
      → (batch_fault_of fault ≡ NoMemory) ⊎ (text_within max_len before (meaning units (chars before) (alone range new))
      ≡ Err (batch_fault_of fault))
  range_fault max_len fault error =
      ⊎_elim
      (λ (none : fault ≡ EditNoMemory). inl (ap batch_fault_of none))
      (λ (t : (why : Fault) × (put_between (plain (chars before)) (chars new) (ends_of units (chars before) range)
      ≡ Err why) × (fault ≡ fault_at 0 why)). inr (ap (text_within max_len before)
      (ap (λ (met : List ℕ). continue_with (λ items. Ok items) 0 (put_between (plain (chars before)) (chars new)
      (ends_of units met range))) (plain_text (chars before)) ∙ ap (continue_with (λ items. Ok items) 0) t.1)
      ∙ ap (λ (f : BatchFault). Err f) (fault_edit 0 t.0 ∙ ap batch_fault_of (sym t.2))))
      (fault_told 0 (chars before) (plain (chars before)) (chars new) fault (ends_of units (chars before) range) error)
