-- A table stays within its limits.
use Rattle.lsp_store.proofs.Prelude.{ℕ, ℤ, ◌≡◌, ◌≤◌, List, [], ◌∷◌, ◌++◌, length, bytes_eq, Some, None, refl, arith, chars, cases_Bool, length-append, scalars-chars, LimitsData, text_of, ContentChange, DocumentItem, opens, changes, closes, entry_at, entry_refusal, change_refusal, changed, after_open, after_change, after_close, AreTexts, WithinLaw, IsWithin, AllWithin, common_steps}
use Rattle.lsp_store.proofs.Messages.MessageLemmas.{accepted_parts}
use Rattle.lsp_store.proofs.Messages.ScalarLemmas.{scalar-meaning, scalar-text}
use Rattle.lsp_store.proofs.GreaterLemmas.{open_parts}

pub within_at : (limits : LimitsData) (table : List DocumentItem) (uri : List ℕ) (entry : DocumentItem)
    → AllWithin limits table → entry_at table uri ≡ Some entry → IsWithin limits entry
within_at limits [] uri entry kept found = absurd (let bad : None ≡ Some entry = found in cc)
within_at limits (first ∷ table) uri entry kept found =
    grind (arith, common_steps, bytes_eq, cases_Bool, (within_at limits table uri entry kept.1))

within_last : (limits : LimitsData) (table : List DocumentItem) (entry : DocumentItem) → AllWithin limits table
    → IsWithin limits entry → AllWithin limits (table ++ entry ∷ [])
within_last limits [] entry kept is = (is, tt)
within_last limits (first ∷ table) entry kept is = (kept.0, within_last limits table entry kept.1 is)

pub within_close : (limits : LimitsData) (table : List DocumentItem) (uri : List ℕ) → AllWithin limits table
    → AllWithin limits (after_close table uri)
within_close limits [] uri kept = tt
within_close limits (first ∷ table) uri kept =
    grind (arith, common_steps, bytes_eq, cases_Bool, (within_close limits table uri kept.1))

pub within_end : (limits : LimitsData) (table : List DocumentItem) (entry : DocumentItem) → AllWithin limits table
    → IsWithin limits entry → AllWithin limits (after_open table entry)
within_end limits table entry kept is =
    within_last limits (after_close table entry.uri) entry (within_close limits table entry.uri kept) is

pub within_changed : (limits : LimitsData) (units : ℕ → ℕ) (entry : DocumentItem) (version : ℤ)
    (batch : List ContentChange) → AreTexts batch → IsWithin limits entry
    → entry_refusal limits units entry version batch ≡ None → IsWithin limits (changed units entry version batch)
within_changed limits units entry version batch texts kept e =
    let a = accepted_parts limits units entry version batch e in
    let all = scalar-text (chars entry.text) a.items (scalars-chars entry.text kept.utf8)
    (scalar-meaning units (chars entry.text) batch a.items texts a.means) in
    rw a.means (record { utf8 = (text_of (chars entry.text) a.items, (all, refl)); short = a.short })

pub within_change : (limits : LimitsData) (units : ℕ → ℕ) (table : List DocumentItem) (uri : List ℕ) (version : ℤ)
    (batch : List ContentChange) → AreTexts batch → AllWithin limits table
    → change_refusal limits units table uri version batch ≡ None
    → AllWithin limits (after_change units table uri version batch)
within_change limits units [] uri version batch texts kept e = tt
within_change limits units (first ∷ table) uri version batch texts kept e =
    grind (
      arith,
      common_steps,
      bytes_eq,
      cases_Bool,
      within_changed,
      (within_change limits units table uri version batch texts kept.1),
    )

change_many : (units : ℕ → ℕ) (table : List DocumentItem) (uri : List ℕ) (version : ℤ) (batch : List ContentChange)
    → length (after_change units table uri version batch) ≡ length table
change_many units [] uri version batch = refl
change_many units (first ∷ table) uri version batch =
    grind (arith, common_steps, bytes_eq, cases_Bool, (change_many units table uri version batch))

close_many : (table : List DocumentItem) (uri : List ℕ) → length (after_close table uri) ≤ length table
close_many [] uri = omega arith
close_many (first ∷ table) uri = grind (arith, common_steps, bytes_eq, cases_Bool, (close_many table uri))

pub within_law : WithinLaw
within_law limits table (opens entry) kept many texts e =
    grind (arith, common_steps, open_parts, within_end, length-append)
within_law limits table (changes uri version encoding batch) kept many texts e =
    grind (arith, common_steps, within_change, change_many)
within_law limits table (closes uri) kept many texts e =
    (within_close limits table uri kept, omega (arith, many, close_many table uri))
