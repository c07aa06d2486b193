use Rattle.laspidru.proofs.Prelude.{◌≡◌, ◌+◌, take, len_of}
use Rattle.lsp_edit.specs.declared.change.TheConstants.{MAX_NEW_TEXT}
use Rattle.laspidru.proofs.changes.Passed.check_on.Given as goal

-- the room that is left, and what the edits so far take of it
abbrev pub invariant-loop-edit : goal.invariant-loop-edit
invariant-loop-edit l = l.room + len_of (take l.edit-index l.self.edits.now) ≡ MAX_NEW_TEXT
