-- The report of the documents from an index on.
use Rattle.log_session.proofs.Prelude.{◌≡◌, ◌+◌, ◌-◌, ◌<◌, ◌++◌, ℕ, List, length, refl, arith, Some, slice_get, drop_more, DocumentItem, document_line, report_from}
use Rattle.std.proofs.lemmas.Option.{slice_get_within, get_or_from_slice_get}

-- a document's line, and then those behind it
pub report_goes_on : (index : ℕ) (table : List DocumentItem) (entry : DocumentItem) → slice_get table index ≡ Some entry
    → report_from index table ≡ document_line entry ++ report_from (index + 1) table
report_goes_on index table entry at =
    rw (
      drop_more table index entry (slice_get_within table index entry at),
      get_or_from_slice_get table index entry entry at,
    ) refl

-- A part of the report: where it ends there is no document at the index, and else a line was put in front of the rest.
pub report_part : (index : ℕ) (table : List DocumentItem) (entry : DocumentItem) → slice_get table index ≡ Some entry
    → (report_from index table ≡ document_line entry ++ report_from (index + 1) table)
    × (length table - (index + 1) < length table - index)
report_part index table entry at =
    (report_goes_on index table entry at, omega (arith, slice_get_within table index entry at))
