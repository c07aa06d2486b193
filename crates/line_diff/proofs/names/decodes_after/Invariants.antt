use Rattle.line_diff.proofs.Prelude.{◌≡◌, drop}
use Rattle.std.specs.Str.{bytes_eq}
use Rattle.percent_encoding.specs.Iter.{decoded_bytes}
use Rattle.percent_encoding.specs.Percent.{percent_decode}
use Rattle.line_diff.proofs.names.decodes_after.Given as goal

abbrev pub invariant-loop-byte : goal.invariant-loop-byte
invariant-loop-byte l = bytes_eq (drop l.before (decoded_bytes l.byte-iterator)) l.rest
    ≡ bytes_eq (drop l.skipped (percent_decode l.uri)) l.name
