use Rattle.lsp_edit.proofs.Prelude.{◌≡◌, take, sum_by, part_len, parts_of}
use Rattle.lsp_edit.proofs.delta.spans.len_of.Given as goal

abbrev pub invariant-loop-span : goal.invariant-loop-span
invariant-loop-span l = l.len ≡ sum_by part_len (parts_of (take l.span-index l.spans))
