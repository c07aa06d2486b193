-- What greater limits accept, and the canonical batch as a law.
use Rattle.lsp_store.proofs.Prelude.{ℕ, ℤ, ◌≡◌, ◌≤◌, ◌<◌, false, nat_lt, nat_le, List, length, Option, Some, None, ap, ◌∙◌, arith, chars, le-ltb, ltb-false, lt-leb, leb-false, LimitsData, units_in, ContentChange, canonical_law, units_some, DocumentItem, opens, changes, closes, entry_at, is_taken, open_refusal, refusal_on, entry_refusal, change_refusal, after_close, GreaterLimitsLaw, CanonicalBatchLaw, AreWithin, common_steps, cases_Bool}
use Rattle.lsp_store.proofs.Tables.LenientLemmas.{still_new, still_free}
use Rattle.lsp_store.proofs.Messages.MessageLemmas.{Accepts, accepted_parts, accepted_from, batch_at, settled_may, settled_leaves, accepts}

-- a document may be opened
pub record MayOpen (limits : LimitsData) (table : List DocumentItem) (entry : DocumentItem) : Type 0 where
  pub new : is_taken limits table entry.uri ≡ false
  pub few : length (after_close table entry.uri) < limits.max_docs
  pub short : length entry.text ≤ limits.max_text

pub open_parts : (limits : LimitsData) (table : List DocumentItem) (entry : DocumentItem)
    → open_refusal limits table entry ≡ None → MayOpen limits table entry
open_parts limits table entry e =
    grind (arith, common_steps, nat_le, nat_lt, leb-false, ltb-false, cases_Bool)

pub open_from : (limits : LimitsData) (table : List DocumentItem) (entry : DocumentItem) → MayOpen limits table entry
    → open_refusal limits table entry ≡ None
open_from limits table entry may = grind (arith, common_steps, nat_le, nat_lt, lt-leb, le-ltb)

-- an open document, which a batch changes
pub record MayChange (limits : LimitsData) (units : ℕ → ℕ) (table : List DocumentItem) (uri : List ℕ) (version : ℤ)
    (batch : List ContentChange) : Type 0 where
  pub entry : DocumentItem
  pub is_open : entry_at table uri ≡ Some entry
  pub may : entry_refusal limits units entry version batch ≡ None

pub change_parts : (limits : LimitsData) (units : ℕ → ℕ) (table : List DocumentItem) (uri : List ℕ) (version : ℤ)
    (batch : List ContentChange) → change_refusal limits units table uri version batch ≡ None
    → MayChange limits units table uri version batch
change_parts limits units table uri version batch e = grind (arith, common_steps)

pub change_from : (limits : LimitsData) (units : ℕ → ℕ) (table : List DocumentItem) (uri : List ℕ) (version : ℤ)
    (batch : List ContentChange) (entry : DocumentItem) → entry_at table uri ≡ Some entry
    → entry_refusal limits units entry version batch ≡ None → change_refusal limits units table uri version batch ≡ None
change_from limits units table uri version batch entry is may =
    ap (λ (found : Option DocumentItem). refusal_on limits units found version batch) is ∙ may

-- ---- greater limits

pub greater_accepts : (small great : LimitsData) (units : ℕ → ℕ) (entry : DocumentItem) (version : ℤ)
    (batch : List ContentChange) → AreWithin small great → Accepts small units entry version batch
    → Accepts great units entry version batch
greater_accepts small great units entry version batch within a = grind (arith, common_steps, still_new)

pub greater_entry : (small great : LimitsData) (units : ℕ → ℕ) (entry : DocumentItem) (version : ℤ)
    (batch : List ContentChange) → AreWithin small great
    → entry_refusal small units entry version batch ≡ None → entry_refusal great units entry version batch ≡ None
greater_entry small great units entry version batch within e =
    grind (arith, common_steps, accepted_from, greater_accepts, accepted_parts)

pub greater_change : (small great : LimitsData) (units : ℕ → ℕ) (table : List DocumentItem) (uri : List ℕ) (version : ℤ)
    (batch : List ContentChange) → AreWithin small great
    → change_refusal small units table uri version batch ≡ None → change_refusal great units table uri version batch
    ≡ None
greater_change small great units table uri version batch within e =
    grind (arith, common_steps, change_parts, change_from, greater_entry)

pub greater_limits_law : GreaterLimitsLaw
greater_limits_law small great table (opens entry) within e =
    grind (arith, common_steps, open_parts, still_free, open_from)
greater_limits_law small great table (changes uri version encoding batch) within e =
    greater_change small great (units_in encoding) table uri version batch within e
greater_limits_law small great table (closes uri) within e = e

-- ---- the canonical batch

pub canonical_batch_law : CanonicalBatchLaw
canonical_batch_law small great encoding table uri version batch ranges within e =
    let units = units_in encoding in
    let m = change_parts small units table uri version batch e in
    let laws = canonical_law units (units_some encoding) (chars m.entry.text) in
    let a = accepts small encoding table uri version m.entry m.is_open laws batch m.may in
    rw (batch_at small encoding table uri version m.entry m.is_open laws batch a.items a.means) (record {
      accepted =
          change_from great units table uri version _ m.entry m.is_open
          (greater_entry small great units m.entry version _ within
          (settled_may small encoding table uri version m.entry m.is_open laws batch m.may
          (omega (arith, a.short, ranges.greatest_text))));
      leaves = settled_leaves small encoding table uri version m.entry m.is_open laws batch m.may;
    })
