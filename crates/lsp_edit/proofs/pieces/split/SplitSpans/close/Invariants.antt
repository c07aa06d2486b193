use Rattle.lsp_edit.proofs.Prelude.{◌≡◌, ◌++◌, length, reverse, parts_of, split_parts}
use Rattle.lsp_edit.proofs.pieces.split.SplitSpans.close.Given as goal

abbrev pub invariant-rest : goal.invariant-rest
invariant-rest l = parts_of l.front.items ++ reverse (parts_of l.back.items) ≡ split_parts l.fn.self

abbrev pub decreases-rest : goal.decreases-rest
decreases-rest l = length l.back.items
