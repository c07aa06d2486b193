-- What the notes of a change go by.
use Rattle.log_report.specs.Prelude.{units_in}
use Rattle.log_report.specs.declared.notes.changes.Terms.{Terms}
use Rattle.log_report.specs.Notes as notes

-- The terms of notes as their value.
abbrev pub terms_view : Terms → notes.Terms
terms_view terms = record {
  units = units_in terms.encoding;
  lengths = terms.lengths.now;
  ranged = terms.ranged;
}
