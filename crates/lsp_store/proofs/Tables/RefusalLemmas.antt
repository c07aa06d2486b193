-- Which refusal of a batch stands first.
use Rattle.lsp_store.proofs.Prelude.{◌≡◌, ◌≤◌, ℕ, ℤ, Bool, true, false, ◌||◌, nat_lt, List, [], ◌∷◌, length, map, sum_by, string_len, Some, None, option_map, Result, Ok, Err, refl, arith, ◌<◌, ◌↔◌, IsTrue, ◌⊎◌, inl, inr, lt-ltb, le-ltb, or_left, or_right, or_from, cases_Bool, ltb-false, length-map, sum_by-cons, IsUtf8-string_bytes, encodes-chars, IsOk, chars, LimitsData, Change, BatchFault, Item, text_within, ContentChange, Fault, meaning, content_change, NoMemory, TooManyChanges, refusal_fault, store_fault_of, IsRefusal, DocumentItem, too_many_changes, batch_bytes, greatest_batch, is_stale, entry_refusal, meaning_refusal, meant_text, common_steps}
use Rattle.lsp_edit.specs.declared.indexed.fault.BatchFault.TheVariants as text

-- the changes of a batch have together so many bytes
pub batch_bytes-changes : (changes : List Change) → batch_bytes (map content_change changes)
    ≡ sum_by (λ change. string_len change.text) changes
batch_bytes-changes [] = refl
batch_bytes-changes (c ∷ cs) =
    grind (
      arith,
      common_steps,
      sum_by-cons,
      encodes-chars,
      IsUtf8-string_bytes,
      c.text.bytes.ok.0,
      (batch_bytes-changes cs),
    )

module _ (limits : LimitsData) (units : ℕ → ℕ) (entry : DocumentItem) (version : ℤ) (batch : List ContentChange)
    (newer : is_stale limits version entry.version ≡ false) where
  pub refused_many : (nat_lt limits.max_changes (length batch) || nat_lt greatest_batch (batch_bytes batch)) ≡ true
      → entry_refusal limits units entry version batch ≡ Some too_many_changes
  refused_many many = rw (newer, many) refl

  pub refused_meaning : (nat_lt limits.max_changes (length batch) || nat_lt greatest_batch (batch_bytes batch)) ≡ false
      → entry_refusal limits units entry version batch ≡ meaning_refusal limits entry.text
      (meaning units (chars entry.text) batch)
  refused_meaning few = rw (newer, few) refl

-- ---- the same, of the changes that a call was given

abbrev too_much : LimitsData → List ContentChange → Bool
too_much limits batch = nat_lt limits.max_changes (length batch) || nat_lt greatest_batch (batch_bytes batch)

module _ (limits : LimitsData) (changes : List Change) where
  many_told : limits.max_changes < length changes → too_much limits (map content_change changes) ≡ true
  many_told many = grind (arith, common_steps, or_left, lt-ltb, length-map)

  long_told : 1073741824 < sum_by (λ change. string_len change.text) changes
      → too_much limits (map content_change changes) ≡ true
  long_told long = grind (arith, common_steps, or_right, nat_lt, lt-ltb, batch_bytes-changes)

  fit_told : length changes ≤ limits.max_changes → sum_by (λ change. string_len change.text) changes ≤ 1073741824
      → too_much limits (map content_change changes) ≡ false
  fit_told few fits = grind (arith, common_steps, or_from, le-ltb, length-map, batch_bytes-changes)

  module _ (units : ℕ → ℕ) (entry : DocumentItem) (version given stored : ℤ) (given_is : given ≡ version)
      (held_is : stored ≡ entry.version) (newer : is_stale limits given stored ≡ false) where
    pub many_refused : limits.max_changes < length changes
        → option_map refusal_fault (entry_refusal limits units entry version (map content_change changes))
        ≡ Some TooManyChanges
    many_refused many = grind (arith, common_steps, refused_many, many_told)

    pub long_refused : (fits : Bool) → (IsTrue fits ↔ (sum_by (λ change. string_len change.text) changes ≤ 1073741824))
        → fits ≡ false → option_map refusal_fault (entry_refusal limits units entry version
        (map content_change changes)) ≡ Some TooManyChanges
    long_refused fits is not = grind (arith, common_steps, refused_many, long_told)

    pub fit_accepted : length changes ≤ limits.max_changes → sum_by (λ change. string_len change.text) changes
        ≤ 1073741824
        → entry_refusal limits units entry version (map content_change changes) ≡ meaning_refusal limits entry.text
        (meaning units (chars entry.text) (map content_change changes))
    fit_accepted few fits = refused_meaning limits units entry version (map content_change changes)
        (rw (given_is, held_is) at newer) (fit_told few fits)

-- ---- what a batch means on a text, within the limit

module _ (limits : LimitsData) (before : List ℕ) where
  pub meaning_accepted : (meant : Result (List Item) (ℕ × Fault)) (bytes : List ℕ)
      → text_within limits.max_text before meant ≡ Ok bytes → (meaning_refusal limits before meant ≡ None)
      × (meant_text before meant ≡ bytes)
  meaning_accepted (Err fault) bytes is = grind (arith, common_steps)
  meaning_accepted (Ok items) bytes is = grind (arith, common_steps, nat_lt, cases_Bool)

  pub meaning_short : (meant : Result (List Item) (ℕ × Fault)) (bytes : List ℕ)
      → text_within limits.max_text before meant ≡ Ok bytes → length bytes ≤ limits.max_text
  meaning_short (Err fault) bytes is = grind (arith, common_steps)
  meaning_short (Ok items) bytes is = grind (arith, common_steps, nat_lt, ltb-false, cases_Bool)

  pub meaning_told : (meant : Result (List Item) (ℕ × Fault)) (fault : BatchFault)
      → text_within limits.max_text before meant ≡ Err fault
      → option_map refusal_fault (meaning_refusal limits before meant) ≡ Some (store_fault_of fault)
  meaning_told (Err cause) fault is = grind (arith, common_steps)
  meaning_told (Ok items) fault is = grind (arith, common_steps, nat_lt, cases_Bool)

  pub text_told : (meant : Result (List Item) (ℕ × Fault)) (fault : BatchFault) → (fault ≡ text.NoMemory)
      ⊎ (text_within limits.max_text before meant ≡ Err fault) → IsRefusal (meaning_refusal limits before meant)
      (store_fault_of fault)
  text_told meant fault error = grind (arith, common_steps, inl, inr, meaning_told)

-- A batch that leaves a text within the limit is accepted, if only its meaning is left.
pub meaning_within : (limits : LimitsData) (bytes : List ℕ) (meant : Result (List Item) (ℕ × Fault))
    → IsOk (text_within limits.max_text bytes meant) → meaning_refusal limits bytes meant ≡ None
meaning_within limits bytes (Err fault) is = absurd (let e : false ≡ true = is in cc)
meaning_within limits bytes (Ok items) is = grind (arith, common_steps, nat_lt, cases_Bool)

-- Only out of memory becomes out of memory.
pub memory_told : (fault : BatchFault) → store_fault_of fault ≡ NoMemory → fault ≡ text.NoMemory
memory_told text.NoMemory e = refl
memory_told _ e = cc
