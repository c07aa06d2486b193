use Rattle.laspidru.proofs.Prelude.{refused_edit}
use Rattle.std.proofs.Common.{◌≡◌, drop}
use Rattle.laspidru.proofs.changes.Passed.new.Given as goal

-- the answer is that of the edits that are left
abbrev pub invariant-loop-edit : goal.invariant-loop-edit
invariant-loop-edit l = refused_edit (drop l.edit-index l.edits) l.rest ≡ refused_edit l.edits l.texts
