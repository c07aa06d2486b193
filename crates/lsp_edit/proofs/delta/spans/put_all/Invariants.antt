use Rattle.lsp_edit.proofs.Prelude.{ℕ, List, drop, map, chars, meaning, content_change, AreResolved, HasPassed, split_parts}
use Rattle.lsp_edit.proofs.Deltas.PuttingLemmas.{IsPutting}
use Rattle.lsp_edit.proofs.delta.spans.put_all.Given as goal

abbrev pub invariant-loop-index : goal.invariant-loop-index
invariant-loop-index l = record {
  passed : HasPassed l.split (split_parts l.split);
  puts : (units : ℕ → ℕ) (before : List ℕ) → AreResolved units before l.len l.changes l.ends
      → IsPutting units before (meaning units (chars before) (map content_change l.changes)) (drop l.index l.changes)
      (drop l.index l.ends) (split_parts l.split);
}
