use Rattle.lsp_edit.proofs.Prelude.{take, drop, parts_of, IsMark}
use Rattle.lsp_edit.proofs.Parts.PassingLemmas.{Passing}
use Rattle.lsp_edit.proofs.pieces.replace.passed_by.Given as goal

abbrev pub invariant-loop-next : goal.invariant-loop-next
invariant-loop-next l = IsMark l.spans l.next l.passed × Passing (parts_of l.spans) (parts_of (take l.next l.spans))
    (parts_of (drop l.next l.spans)) l.passed l.low
