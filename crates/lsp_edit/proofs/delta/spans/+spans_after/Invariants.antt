use Rattle.lsp_edit.proofs.Prelude.{length}
use Rattle.lsp_edit.proofs.delta.spans.+spans_after.Given as goal

abbrev pub decreases-spans_after : goal.decreases-spans_after
decreases-spans_after l = length l.changes.now
