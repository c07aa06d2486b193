use Rattle.lsp_edit.proofs.Prelude.{◌≤◌, length, HasPassed, split_parts}
use Rattle.lsp_edit.proofs.pieces.split.SplitSpans.move_to.Given as goal

abbrev pub invariant-back : goal.invariant-back
invariant-back l = HasPassed l.self (split_parts l.fn.self)

abbrev pub decreases-back : goal.decreases-back
decreases-back l = length l.self.front.items

abbrev pub invariant-on : goal.invariant-on
invariant-on l = record { passed : HasPassed l.self (split_parts l.fn.self); low : l.self.passed ≤ l.offset }

abbrev pub decreases-on : goal.decreases-on
decreases-on l = length l.self.back.items
