use Rattle.lsp_edit.proofs.Prelude.{drop, map, units_in, content_change}
use Rattle.lsp_edit.proofs.Batches.DraftLemmas.{Drafting}
use Rattle.lsp_edit.proofs.indexed.IndexedText.draft.Given as goal

abbrev pub invariant-loop-number : goal.invariant-loop-number
invariant-loop-number l = Drafting (units_in l.encoding) l.self (map content_change l.changes) l.number
    (drop l.number l.changes) l.draft l.ends.items
