use Rattle.lsp_edit.proofs.Prelude.{◌≡◌, ◌+◌, take, sum_by, string_len}
use Rattle.lsp_edit.specs.declared.change.TheConstants.{MAX_NEW_TEXT}
use Rattle.lsp_edit.proofs.change.fits.Given as goal

-- the room that is left, and what the changes so far take of it
abbrev pub invariant-loop-change : goal.invariant-loop-change
invariant-loop-change l =
    l.room + sum_by (λ change. string_len change.text) (take l.change-index l.changes) ≡ MAX_NEW_TEXT
