use Rattle.line_diff.proofs.Prelude.{◌≡◌, ◌≤◌, ◌++◌}
use Rattle.std.specs.Char.Escape.{escape_unicode}
use Rattle.std.specs.Char.Iter.{escape_end, escape_rest}
use Rattle.std.specs.Str.{encode_utf8_all}
use Rattle.line_diff.proofs.shown.push_number_escape.Given as goal

abbrev pub invariant-loop-each : goal.invariant-loop-each
invariant-loop-each l = record {
  bound : escape_end l.each-iterator ≤ 10;
  rest : l.buffer.items ++ encode_utf8_all (escape_rest l.each-iterator)
      ≡ l.fn.buffer.items ++ encode_utf8_all (escape_unicode l.fn.character);
}
