use Rattle.line_diff.proofs.Prelude.{◌≡◌, ◌+◌, length}
use Rattle.percent_encoding.specs.Iter.{decoded_bytes}
use Rattle.percent_encoding.specs.Percent.{percent_decode}
use Rattle.line_diff.proofs.names.decoded_len.Given as goal

abbrev pub invariant-loop-byte : goal.invariant-loop-byte
invariant-loop-byte l = l.count + length (decoded_bytes l._byte-iterator) ≡ length (percent_decode l.uri)
