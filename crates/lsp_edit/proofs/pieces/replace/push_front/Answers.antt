use Rattle.lsp_edit.proofs.Parts.PartLemmas.{front_none}
use Rattle.lsp_edit.proofs.pieces.replace.push_front.Goals as goal

pub returns-then-left-eq0 : goal.returns-then-left-eq0
returns-then-left-eq0 c = front_none _ _ _ _ _ _ c.loop-span.invariant c.if-left-eq0.true
