-- What is true of the table of documents.
-- ---- what an accepted command says of the table
use Rattle.lsp_store.proofs.Prelude.{ℕ, ℤ, ◌≡◌, false, List, [], ◌∷◌, ◌++◌, length, map, IsUtf8, bytes_eq, encode_utf8_all, Some, None, refl, ap, ◌∙◌, arith, chars, cases_Bool, sum_by-cons, bytes_eq-Decides, encodes-chars, LimitsData, AreInRange, units_in, New, ContentChange, bytes_left, DocumentItem, Command, opens, changes, closes, batch_bytes, entry_at, entry_refusal, changed, after_change, after_close, table_after, table_from, AreTexts, WholeTextLaw, UniqueLaw, TableLaw, LastLaw, IsWithin, AreUnique, AreAccepted, IsInOrder, AreWithin, common_steps}
use Rattle.lsp_edit.proofs.Parts.CutLemmas.{text_of-new}
use Rattle.lsp_store.proofs.Tables.LenientLemmas.{still_new}
use Rattle.lsp_store.proofs.Messages.MessageLemmas.{Accepts, accepted_parts, accepted_from, leaves_same}
use Rattle.lsp_store.proofs.GreaterLemmas.{change_parts, change_from}
use Rattle.lsp_store.proofs.WithinLemmas.{within_at, within_changed, within_law}

-- a changed document is found where it was
pub found_changed : (units : ℕ → ℕ) (table : List DocumentItem) (uri : List ℕ) (version : ℤ)
    (batch : List ContentChange) (entry : DocumentItem) → entry_at table uri ≡ Some entry
    → entry_at (after_change units table uri version batch) uri ≡ Some (changed units entry version batch)
found_changed units [] uri version batch entry found = absurd (let bad : None ≡ Some entry = found in cc)
found_changed units (first ∷ table) uri version batch entry found =
    grind (arith, common_steps, bytes_eq, cases_Bool, (found_changed units table uri version batch entry))

abbrev pub one_text : List ℕ → List ContentChange
one_text bytes = record { range = None; text = chars bytes } ∷ []

one_bytes : (old bytes : List ℕ) → IsUtf8 bytes → bytes_left old (map New (chars bytes)) ≡ bytes
one_bytes old bytes utf8 = ap encode_utf8_all (text_of-new (chars old) (chars bytes)) ∙ encodes-chars bytes utf8

one_weighs : (bytes : List ℕ) → IsUtf8 bytes → batch_bytes (one_text bytes) ≡ length bytes
one_weighs bytes utf8 = grind (arith, common_steps, sum_by-cons, encode_utf8_all, encodes-chars)

-- The whole text is accepted, and leaves it.
whole_accepts : (small great : LimitsData) (units : ℕ → ℕ) (entry : DocumentItem) (version : ℤ)
    (batch : List ContentChange) → AreInRange small → AreWithin small great
    → IsWithin small entry → AreTexts batch → entry_refusal small units entry version batch ≡ None
    → Accepts great units entry version (one_text (changed units entry version batch).text)
whole_accepts small great units entry version batch ranges within kept texts e =
    let a = accepted_parts small units entry version batch e in
    let left = within_changed small units entry version batch texts kept e in
    let bytes : List ℕ = (changed units entry version batch).text in
    let text = within.text in
    let few = within.changes in
    record {
      newer = still_new small great within.lenient version entry.version a.newer;
      few = omega (arith, few, ranges.least_changes);
      fits = omega (arith, one_weighs bytes left.utf8, left.short, ranges.greatest_text);
      items = map New (chars bytes);
      means = refl;
      short = omega (arith, ap length (one_bytes entry.text bytes left.utf8), left.short, text);
    }

pub whole_text_law : WholeTextLaw
whole_text_law small great encoding table uri version batch ranges within kept texts e =
    let units = units_in encoding in
    let m = change_parts small units table uri version batch e in
    let h = within_at small table uri m.entry kept m.is_open in
    let left = within_changed small units m.entry version batch texts h m.may in
    rw (found_changed units table uri version batch m.entry m.is_open) (record {
      accepted =
          change_from great units table uri version _ m.entry m.is_open
          (accepted_from great units m.entry version _ (whole_accepts small great units m.entry version batch ranges
          within h texts m.may));
      leaves =
          leaves_same units table uri version _ batch m.entry m.is_open
          (ap (λ (text : List ℕ). record m.entry { version = version; text = text })
          (one_bytes m.entry.text _ left.utf8));
    })

-- ---- one command more

from_last : (table : List DocumentItem) (commands : List Command) (command : Command)
    → table_from table (commands ++ command ∷ []) ≡ table_after (table_from table commands) command
from_last table [] command = refl
from_last table (first ∷ commands) command = from_last (table_after table first) commands command

pub last_law : LastLaw
last_law commands command = from_last [] commands command

-- ---- no URI twice

-- two URIs that differ one way differ the other way
not_equal : (uri other : List ℕ) → bytes_eq uri other ≡ false → bytes_eq other uri ≡ false
not_equal uri other not = grind (arith, common_steps, bytes_eq, bytes_eq-Decides, cases_Bool)

-- a URI that is not open first is open neither first nor later
first_differs : (first : DocumentItem) (table : List DocumentItem) (uri : List ℕ) → entry_at (first ∷ table) uri ≡ None
    → (bytes_eq uri first.uri ≡ false) × (entry_at table uri ≡ None)
first_differs first table uri none = grind (arith, common_steps, bytes_eq, cases_Bool)

none_last : (table : List DocumentItem) (entry : DocumentItem) (uri : List ℕ) → entry_at table uri ≡ None
    → bytes_eq uri entry.uri ≡ false → entry_at (table ++ entry ∷ []) uri ≡ None
none_last [] entry uri none not = rw not refl
none_last (first ∷ table) entry uri none not =
    let parts = first_differs first table uri none in
    rw parts.0 (none_last table entry uri parts.1 not)

unique_last : (table : List DocumentItem) (entry : DocumentItem) → AreUnique table → entry_at table entry.uri ≡ None
    → AreUnique (table ++ entry ∷ [])
unique_last [] entry unique new = (refl, tt)
unique_last (first ∷ table) entry unique new =
    grind (arith, common_steps, first_differs, none_last, not_equal, (unique_last table entry unique.1))

none_changed : (units : ℕ → ℕ) (table : List DocumentItem) (uri : List ℕ) (version : ℤ) (batch : List ContentChange)
    (other : List ℕ) → entry_at table other ≡ None → entry_at (after_change units table uri version batch) other ≡ None
none_changed units [] uri version batch other none = refl
none_changed units (first ∷ table) uri version batch other none =
    grind (arith, common_steps, bytes_eq, cases_Bool, (none_changed units table uri version batch other))

unique_changed : (units : ℕ → ℕ) (table : List DocumentItem) (uri : List ℕ) (version : ℤ) (batch : List ContentChange)
    → AreUnique table → AreUnique (after_change units table uri version batch)
unique_changed units [] uri version batch unique = tt
unique_changed units (first ∷ table) uri version batch unique =
    grind (
      arith,
      common_steps,
      bytes_eq,
      none_changed,
      cases_Bool,
      (unique_changed units table uri version batch unique.1),
    )

none_closed : (table : List DocumentItem) (uri other : List ℕ) → entry_at table other ≡ None
    → entry_at (after_close table uri) other ≡ None
none_closed [] uri other none = refl
none_closed (first ∷ table) uri other none =
    grind (arith, common_steps, bytes_eq, cases_Bool, (none_closed table uri other))

unique_closed : (table : List DocumentItem) (uri : List ℕ) → AreUnique table → AreUnique (after_close table uri)
unique_closed [] uri unique = tt
unique_closed (first ∷ table) uri unique =
    grind (arith, common_steps, bytes_eq, none_closed, cases_Bool, (unique_closed table uri unique.1))

-- a closed document is not open
none_left : (table : List DocumentItem) (uri : List ℕ) → AreUnique table → entry_at (after_close table uri) uri ≡ None
none_left [] uri unique = refl
none_left (first ∷ table) uri unique =
    grind (arith, common_steps, bytes_eq, bytes_eq-Decides, cases_Bool, (none_left table uri unique.1))

pub unique_law : UniqueLaw
unique_law limits table (opens entry) unique e =
    unique_last (after_close table entry.uri) entry (unique_closed table entry.uri unique)
    (none_left table entry.uri unique)
unique_law limits table (changes uri version encoding batch) unique e =
    unique_changed (units_in encoding) table uri version batch unique
unique_law limits table (closes uri) unique e = unique_closed table uri unique

-- ---- a list of commands

table_in_order : (limits : LimitsData) (table : List DocumentItem) (commands : List Command) → IsInOrder limits table
    → AreAccepted limits table commands → IsInOrder limits (table_from table commands)
table_in_order limits table [] is accepted = is
table_in_order limits table (command ∷ commands) is accepted =
    let next = within_law limits table command is.texts is.many accepted.0 accepted.1 in
    table_in_order limits (table_after table command) commands
    (record { unique = unique_law limits table command is.unique accepted.1; many = next.1; texts = next.0 }) accepted.2

pub table_law : TableLaw
table_law limits commands accepted =
    table_in_order limits [] commands (record { unique = tt; many = omega arith; texts = tt }) accepted
