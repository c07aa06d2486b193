use Rattle.std.proofs.Common.{◌∙◌, map}
use Rattle.lsp_text.specs.Units.{units_in}
use Rattle.lsp_edit.specs.Edited.{content_change}
use Rattle.lsp_vectors.proofs.LeftLemmas.{left_told}
use Rattle.lsp_vectors.proofs.answer.left_by_changes.Goals as goal

pub returns : goal.returns
returns c = record {
  ok =
      left_told (units_in c.args.encoding) _ c.args.text.now (map content_change c.args.changes.now)
      c.in_ok-delta.delta _
      (rw (c.in_ok-kept.ensures, c.in_ok-from_str.ensures.ok) at c.in_ok-delta.ensures.ok)
      (c.in_ok-text.ensures ∙ (c.text.ensures ∙ rw (
        c.in_ok-kept.ensures,
        c.in_ok-from_str.ensures.ok,
      ) at c.in_ok-apply.ensures.changed))
      (rw (c.in_ok-kept.ensures, c.in_ok-from_str.ensures.ok) at c.in_ok-canonical.ensures);
}
