use Rattle.lsp_text.proofs.Prelude.{◌≡◌, ◌++◌, ◌-◌, take, drop, places, is_byte2}
use Rattle.lsp_text.proofs.TextLines.EndLemmas.{ends_of, Marks}
use Rattle.lsp_text.proofs.lines.ends.push_ends.Given as goal

abbrev pub invariant-loop-at : goal.invariant-loop-at
invariant-loop-at l = record {
  within : Marks l.low l.high l.at-iterator;
  found : l.starts.items ++ ends_of l.bytes l.low l.at-iterator ≡ l.fn.starts.items ++ ends_of l.bytes l.low
      (places (is_byte2 10 13) (take (l.high - l.low) (drop l.low l.bytes)));
}
