use Rattle.log_report.proofs.Prelude.{units_in}
use Rattle.std.proofs.Common.{◌≡◌, ◌+◌, IsUtf8, chars, sum_by}
use Rattle.std.specs.Str.Iter.{chars_rest}
use Rattle.log_report.proofs.notes.units.units_of.Given as goal

abbrev pub invariant-loop-c : goal.invariant-loop-c
invariant-loop-c l = record {
  utf8 : IsUtf8 (chars_rest l.c-iterator);
  counted : l.count + sum_by (units_in l.encoding) (chars (chars_rest l.c-iterator)) ≡ sum_by (units_in l.encoding)
      (chars l.text);
}
